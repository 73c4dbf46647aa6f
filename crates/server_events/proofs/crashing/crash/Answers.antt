use Rattle.rep_model.specs.State.{of}
use Rattle.rep_model.specs.LogEvents.{crash_plan}
use Rattle.cluster_core.specs.declared.parts.ClusterCore.{ClusterCore}
use Rattle.cluster_core.proofs.Answering.{plan_refused}
use Rattle.cluster_core.proofs.Reaching.{orderly}
use Rattle.server_events.proofs.Crashed.{map_numbered, crash_done}
use Rattle.server_events.proofs.crashing.crash.Goals as goal

pub returns-in-Err-clause-does : goal.returns-in-Err-clause-does
returns-in-Err-clause-does c = λ way files m reached pair stands.
    let core : ClusterCore = c.args.core.now in
    plan_refused core.own (crash_plan core.own c.args.server m) m files core c.in-Err.why (c.in-Err.ensures.state files m stands.servers) stands

pub returns-clause-does : goal.returns-clause-does
returns-clause-does c = λ way files m reached pair stands.
    let core : ClusterCore = c.args.core.now in
    let at = c.in-Ok.at in
    let found = c.in-Ok.ensures.state files m stands.servers in
    let here = found.here in
    let numbered = map_numbered core.map (of core.own m) stands.regions (orderly core.own pair m reached).numbered in
    crash_done core.own files core c.args.server m pair stands reached at here found.live c.die-doubtful.result _ (c.die-doubtful.ensures.tickets here.station here.there)
    (λ i. record core { stations = c.die-doubtful.ensures.left here.station here.there i; map = c.lose_regions.ensures numbered i })
