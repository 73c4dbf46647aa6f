use Rattle.std.proofs.Common.{◌∙◌, OnErr}
use Rattle.std.specs.Prelude.{Result, Ok, Err}
use Rattle.wal_entry.proofs.Grown.{begins_pushed}
use Rattle.wire_batch.proofs.encode.push_forms.Goals as goal

on_err : {T E P : Type 0} (r : Result T E) → P → OnErr r P
on_err (Ok x) p = tt
on_err (Err e) p = p

pub returns-in_err-encode_frame-clause-err : goal.returns-in_err-encode_frame-clause-err
returns-in_err-encode_frame-clause-err c =
    on_err c.from_residual.result (begins_pushed c.args.out.now c.encode_frame.new.out _ (c.in_err-encode_frame.ensures.err ∙ c.loop-form.invariant))
