use Rattle.std.proofs.Common.{◌≡◌, ◌++◌, drop}
use Rattle.rep_model.specs.Forms.{forms}
use Rattle.plain_parts.proofs.forms.forms.Given as goal

abbrev pub invariant-loop-entry : goal.invariant-loop-entry
invariant-loop-entry l = l.made ++ forms l.from l.to l.tables (drop l.entry-index l.entries) ≡ forms l.from l.to l.tables l.entries
