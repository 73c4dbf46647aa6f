use Rattle.std.proofs.Common.{ap}
use Rattle.std.specs.List.{filter_map}
use Rattle.run_cells.specs.Outdone.{view_of_put, shown}
use Rattle.run_cells.proofs.Best.{compacted_twice}
use Rattle.run_cells.proofs.laws.compaction_shows_the_same.Goals as goal

pub returns : goal.returns
unfolding shown
returns c = λ cells. ap (filter_map view_of_put) (compacted_twice cells)
