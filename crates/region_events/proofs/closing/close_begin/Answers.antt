use Rattle.rep_model.specs.RegionEvents.{close_begin_plan}
use Rattle.cluster_core.proofs.Answering.{plan_refused}
use Rattle.region_events.proofs.ClosingBegun.{is_there, close_done}
use Rattle.region_events.proofs.closing.close_begin.Goals as goal

pub returns-in-Err-clause-does : goal.returns-in-Err-clause-does
returns-in-Err-clause-does g = λ way c m reached stands.
    let own = g.args.core.now.own in
    plan_refused own (close_begin_plan own g.args.region m) m c _ _ (g.in-Err.ensures.refused m stands.regions) stands

pub set_place-requires : goal.set_place-requires
set_place-requires c = is_there c.args.core.now.map c.args.region c.in-Ok.server c.in-Ok.ensures.on

pub returns-clause-does : goal.returns-clause-does
returns-clause-does g = λ way c m reached stands.
    close_done way g.args.core.now.own c g.args.core.now g.args.region m stands g.in-Ok.server _ g.in-Ok.ensures.on (λ i. record g.args.core.now { map = g.set_place.ensures i })
