use Rattle.std.proofs.Common.{◌≡◌, filter}
use Rattle.cluster_core.specs.Lines.{lives}
use Rattle.pair_core.specs.Views.{numbers}
use Rattle.pair_core.proofs.side_views.live_stations.Given as goal

abbrev pub invariant-loop-at : goal.invariant-loop-at
invariant-loop-at l = l.live ≡ filter (λ s. lives s l.stations) (numbers l.at)
