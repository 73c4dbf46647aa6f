use Rattle.std.proofs.Common.{◌∙◌}
use Rattle.rep_model.specs.State.{of}
use Rattle.server_events.proofs.Refused.{known, seal_no_server, seal_alive, seal_again}
use Rattle.server_events.proofs.sealing.seal_place.Goals as goal

pub returns-in_default-clause-state : goal.returns-in_default-clause-state
returns-in_default-clause-state c = λ files m stand said. seal_no_server c.args.core.now.own c.args.server m said (c.in_default.ensures.state files (of c.args.core.now.own m) stand)

pub returns-then-station-clause-state : goal.returns-then-station-clause-state
returns-then-station-clause-state c = λ files m stand said.
    let here = c.in-Some.ensures.state files (of c.args.core.now.own m) stand in
    let k = known files (of c.args.core.now.own m) c.args.core.now.stations c.args.server c.in-Some.at here c.station_here-station.result.now (c.station_here-station.ensures here.station here.there) in
    seal_alive c.args.core.now.own c.args.server m here.server here.known said (k.live ∙ c.if-station.true)

pub returns-then-station-2-clause-state : goal.returns-then-station-2-clause-state
returns-then-station-2-clause-state c = λ files m stand said.
    let here = c.in-Some.ensures.state files (of c.args.core.now.own m) stand in
    let k = known files (of c.args.core.now.own m) c.args.core.now.stations c.args.server c.in-Some.at here c.station_here-station.result.now (c.station_here-station.ensures here.station here.there) in
    seal_again c.args.core.now.own c.args.server m here.server here.known said (k.live ∙ c.if-station.false) (k.sealed ∙ c.if-station-2.true)

pub returns-clause-state : goal.returns-clause-state
returns-clause-state c = λ files m stand.
    let here = c.in-Some.ensures.state files (of c.args.core.now.own m) stand in
    let k = known files (of c.args.core.now.own m) c.args.core.now.stations c.args.server c.in-Some.at here c.station_here-station.result.now (c.station_here-station.ensures here.station here.there) in
    record { here = here; dead = k.live ∙ c.if-station.false; unsealed = k.sealed ∙ c.if-station-2.false }
