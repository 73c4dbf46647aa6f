use Rattle.std.proofs.Common.{◌≡◌, take}
use Rattle.cell_store.specs.Steps.{of_rows}
use Rattle.cell_store.proofs.gathering.copy_rows.Given as goal

abbrev pub invariant-loop-cell : goal.invariant-loop-cell
invariant-loop-cell g l = l.kept ≡ of_rows (g.R.Rows.wants l.rows) (take l.cell-index l.cells)
