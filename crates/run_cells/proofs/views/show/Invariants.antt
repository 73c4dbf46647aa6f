use Rattle.std.proofs.Common.{◌≡◌, take, filter}
use Rattle.std.specs.List.{filter_map}
use Rattle.run_cells.specs.Outdone.{counts_in, view_of_put}
use Rattle.run_cells.proofs.views.show.Given as goal

abbrev pub invariant-loop-at : goal.invariant-loop-at
invariant-loop-at l = l.views ≡ filter_map view_of_put (filter (counts_in l.cells) (take l.at l.cells))
