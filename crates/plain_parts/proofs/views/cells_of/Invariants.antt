use Rattle.std.proofs.Common.{◌≡◌, take}
use Rattle.rep_model.specs.Reads.{table_edits}
use Rattle.plain_parts.proofs.views.cells_of.Given as goal

abbrev pub invariant-loop-item : goal.invariant-loop-item
invariant-loop-item l = l.cells ≡ table_edits l.table (take l.item-index l.written)
