use Rattle.std.proofs.Common.{◌≡◌, take, filter}
use Rattle.run_cells.specs.Outdone.{counts_in}
use Rattle.run_cells.proofs.compaction.compact.Given as goal

abbrev pub invariant-loop-at : goal.invariant-loop-at
invariant-loop-at l = l.kept ≡ filter (counts_in l.cells) (take l.at l.cells)
