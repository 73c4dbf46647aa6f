use Rattle.rep_model.specs.State.{of}
use Rattle.region_events.proofs.Marking.{wrong_by_place, wrong_by_server}
use Rattle.region_events.proofs.markers.marking_at.Goals as goal

pub returns-in-None-ends_at-clause-state : goal.returns-in-None-ends_at-clause-state
returns-in-None-ends_at-clause-state c = λ m files stands.
    wrong_by_place c.args.ending c.args.core.now.own c.args.number m _ (c.in-Some.ensures (of c.args.core.now.own m) stands.regions) c.in-None-ends_at.ensures

pub returns-in-None-station_at-clause-state : goal.returns-in-None-station_at-clause-state
returns-in-None-station_at-clause-state c = λ m files stands.
    wrong_by_server c.args.ending c.args.core.now.own c.args.number m _ (c.in-Some.ensures (of c.args.core.now.own m) stands.regions) c.in-Some-ends_at.server c.in-Some-ends_at.ensures
    (c.in-None-station_at.ensures.state files (of c.args.core.now.own m) stands.servers)
