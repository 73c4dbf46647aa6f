use Rattle.rep_types.specs.declared.ids.Cluster.{Cluster}
use Rattle.rep_model.specs.QueueEvents.{confirm_plan}
use Rattle.cluster_core.specs.declared.parts.ClusterCore.{ClusterCore}
use Rattle.queue_events.proofs.Confirmed.{plan_refused, recorded_answer, its_cluster}
use Rattle.queue_events.proofs.recording.confirm.Goals as goal

pub returns-in-Ok-clause-does : goal.returns-in-Ok-clause-does
returns-in-Ok-clause-does c = λ way files m reached inside stands flights from.
    let own : Cluster = c.args.core.now.own in
    let core : ClusterCore = c.args.core.now in
    let may = c.in-Ok.ensures way files m reached stands flights from in
    recorded_answer own c.args.flight m files core c.land.new.core c.args.flights.now c.in-Ok.sent.now reached flights may (its_cluster own core c.args.flight m c.in-Ok.sent.now may from) inside stands c.land.ensures

pub returns-in-Err-clause-does : goal.returns-in-Err-clause-does
returns-in-Err-clause-does c = λ way files m reached inside stands flights from.
    plan_refused c.args.core.now.own (confirm_plan c.args.flight m) m files c.args.core.now c.args.flights.now c.in-Err.why (c.in-Err.ensures way files m reached stands flights from) stands flights
