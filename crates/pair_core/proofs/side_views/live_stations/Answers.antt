use Rattle.std.proofs.Common.{arith}
use Rattle.cluster_core.specs.Lines.{lives}
use Rattle.pair_core.proofs.Living.{passed-more, passed-all}
use Rattle.pair_core.proofs.side_views.live_stations.Goals as goal

pub loop-at-preserved : goal.loop-at-preserved
loop-at-preserved c = passed-more (λ s. lives s c.args.stations.now) c.loop-at.at c.numbered.result _ _ c.loop-at.invariant c.numbered.ensures c.in_ok-add_live.ensures

pub returns : goal.returns
returns c = passed-all (λ s. lives s c.args.stations.now) c.loop-at.at 64 _ c.loop-at.invariant (omega arith)
