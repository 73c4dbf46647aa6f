use Rattle.std.proofs.Common.{arith}
use Rattle.rep_model.specs.Runs.{state_of}
use Rattle.script_text.specs.Drains.{lives}
use Rattle.script_runner.proofs.Living.{passed-new, passed-more, passed-all}
use Rattle.script_runner.proofs.asked.live_servers.Goals as goal

pub loop-at-init : goal.loop-at-init
loop-at-init g c = rw c.new-live.ensures (passed-new _, omega arith)

pub loop-at-preserved : goal.loop-at-preserved
loop-at-preserved g c =
    let few = c.in_ok-add_live.ensures.few in
    let so_far = c.loop-at.invariant.1 in (
      passed-more (lives c.args.cluster (state_of c.args.pair.now.journal)) c.loop-at.at c.numbered.result _ _ c.loop-at.invariant.0 c.numbered.ensures c.in_ok-add_live.ensures.added,
      omega (arith, few, so_far),
    )

pub returns-clause-live : goal.returns-clause-live
returns-clause-live g c = passed-all (lives c.args.cluster (state_of c.args.pair.now.journal)) c.loop-at.at 64 _ c.loop-at.invariant.0 (omega arith)
