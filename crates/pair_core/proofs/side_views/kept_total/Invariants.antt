use Rattle.std.proofs.Common.{◌≡◌, take}
use Rattle.pair_core.specs.InMemory.{kept_total}
use Rattle.pair_core.proofs.side_views.kept_total.Given as goal

abbrev pub invariant-loop-shelf : goal.invariant-loop-shelf
invariant-loop-shelf l = l.total ≡ kept_total (take l.shelf-index l.shelves)
