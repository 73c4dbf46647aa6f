use Rattle.std.proofs.Common.{All, take}
use Rattle.wal_entry.specs.Framed.{IsTyped}
use Rattle.shipper.proofs.typed.type_forms.Given as goal

abbrev pub invariant-loop-form : goal.invariant-loop-form
invariant-loop-form l = All IsTyped (take l.form-index l.forms)
