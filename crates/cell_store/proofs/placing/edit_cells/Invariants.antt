use Rattle.std.proofs.Common.{◌≡◌, take, map}
use Rattle.cell_store.specs.Cells.{ranked}
use Rattle.cell_store.proofs.placing.edit_cells.Given as goal

abbrev pub invariant-loop-cell : goal.invariant-loop-cell
invariant-loop-cell l = l.cells.items ≡ map (ranked l.edit.row l.rank) (take l.cell-index l.cell-items)
