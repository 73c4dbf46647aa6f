use Rattle.std.proofs.Common.{◌+◌, length}
use Rattle.run_cells.proofs.Together.{Merging}
use Rattle.run_cells.proofs.merging.merge.Given as goal

abbrev pub invariant-loop-cell : goal.invariant-loop-cell
invariant-loop-cell l = Merging l.fn.left l.fn.right l.all l.left.items l.right.items

abbrev pub decreases-loop-cell : goal.decreases-loop-cell
decreases-loop-cell l = length l.left.items + length l.right.items
