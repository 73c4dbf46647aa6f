use Rattle.std.proofs.Common.{◌∙◌, not, Some, ap, sym}
use Rattle.rep_types.specs.declared.refusal.Refusal.TheVariants as refusal
use Rattle.wal_roll.specs.Log.{LogValue}
use Rattle.rep_model.specs.State.{of}
use Rattle.server_events.proofs.Refused.{known, broken_is, sync_no_server, sync_dead, sync_broken}
use Rattle.server_events.proofs.syncing.sync_place.Goals as goal

pub returns-in_default-clause-state : goal.returns-in_default-clause-state
returns-in_default-clause-state c = λ files m stand. sync_no_server c.args.core.now.own c.args.server m (c.in_default.ensures.state files (of c.args.core.now.own m) stand)

pub returns-then-not-station-clause-state : goal.returns-then-not-station-clause-state
returns-then-not-station-clause-state c = λ files m stand.
    let here = c.in-Some.ensures.state files (of c.args.core.now.own m) stand in
    let k = known files (of c.args.core.now.own m) c.args.core.now.stations c.args.server c.in-Some.at here c.station_here-station.result.now (c.station_here-station.ensures here.station here.there) in
    sync_dead c.args.core.now.own c.args.server m here.server here.known (k.live ∙ c.if-not-station.true)

pub returns-then-is_broken-clause-state : goal.returns-then-is_broken-clause-state
returns-then-is_broken-clause-state c = λ files m stand.
    let here = c.in-Some.ensures.state files (of c.args.core.now.own m) stand in
    let k = known files (of c.args.core.now.own m) c.args.core.now.stations c.args.server c.in-Some.at here c.station_here-station.result.now (c.station_here-station.ensures here.station here.there) in
    sync_broken c.args.core.now.own c.args.server m here.server here.known (k.live ∙ c.if-not-station.false) (k.whole ∙ ap not (broken_is c.station_here-station.result.now c.log-log.result.now c.is_broken.result _ c.log-log.ensures.log c.is_broken.ensures c.if-is_broken.true)) ∙ ap (λ n. Some (refusal.Broken n)) (k.log ∙ sym (c.number.ensures ∙ ap (λ (w : LogValue). w.number) c.log-log.ensures.log))

pub returns-clause-state : goal.returns-clause-state
returns-clause-state c = λ files m stand.
    let here = c.in-Some.ensures.state files (of c.args.core.now.own m) stand in
    let k = known files (of c.args.core.now.own m) c.args.core.now.stations c.args.server c.in-Some.at here c.station_here-station.result.now (c.station_here-station.ensures here.station here.there) in
    record { here = here; live = k.live ∙ c.if-not-station.false; whole = k.whole ∙ ap not (broken_is c.station_here-station.result.now c.log-log.result.now c.is_broken.result _ c.log-log.ensures.log c.is_broken.ensures c.if-is_broken.false) }
