use Rattle.std.proofs.Common.{◌≡◌, take}
use Rattle.plain_parts.proofs.views.see.Given as goal

abbrev pub invariant-loop-edit : goal.invariant-loop-edit
invariant-loop-edit l = l.cells ≡ take l.edit-index l.edits
