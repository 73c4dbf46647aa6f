use Rattle.run_cells.proofs.Best.{compacted_beside}
use Rattle.run_cells.proofs.laws.compaction_outdoes_the_same.Goals as goal

pub returns : goal.returns
returns c = compacted_beside
