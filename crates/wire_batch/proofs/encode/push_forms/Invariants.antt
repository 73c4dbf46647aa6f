use Rattle.std.proofs.Common.{◌≡◌, ◌++◌, take}
use Rattle.wire_batch.specs.Spelling.{forms_spelling}
use Rattle.wire_batch.proofs.encode.push_forms.Given as goal

abbrev pub invariant-loop-form : goal.invariant-loop-form
invariant-loop-form l = l.out ≡ l.fn.out ++ forms_spelling (take l.form-index l.forms)
