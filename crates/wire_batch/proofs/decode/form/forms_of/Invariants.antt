use Rattle.std.proofs.Common.{◌≡◌, ◌-◌, []}
use Rattle.wire_batch.specs.Answers.{place}
use Rattle.wire_batch.specs.Grammar.{forms}
use Rattle.wire_batch.proofs.decode.form.forms_of.Given as goal

abbrev pub invariant-loop : goal.invariant-loop
invariant-loop l = forms l.end l.count [] (place l.fn.here) ≡ forms l.end (l.count - l.counter) l.forms (place l.here)
