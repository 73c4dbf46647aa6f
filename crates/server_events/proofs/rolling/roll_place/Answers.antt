use Rattle.std.proofs.Common.{◌∙◌, not, length, Some, ap, sym}
use Rattle.rep_types.specs.declared.refusal.Refusal.TheVariants as refusal
use Rattle.wal_roll.specs.Log.{LogValue}
use Rattle.rep_model.specs.State.{of}
use Rattle.server_events.proofs.Refused.{known, broken_is, settled_broken, settled_empty, unsettled, roll_no_server, roll_dead, roll_pending}
use Rattle.server_events.proofs.rolling.roll_place.Goals as goal

pub returns-in_default-clause-state : goal.returns-in_default-clause-state
returns-in_default-clause-state c = λ files m stand way said. roll_no_server c.args.core.now.own c.args.server m way said (c.in_default.ensures.state files (of c.args.core.now.own m) stand)

pub returns-then-not-station-clause-state : goal.returns-then-not-station-clause-state
returns-then-not-station-clause-state c = λ files m stand way said.
    let here = c.in-Some.ensures.state files (of c.args.core.now.own m) stand in
    let k = known files (of c.args.core.now.own m) c.args.core.now.stations c.args.server c.in-Some.at here c.station_here-station.result.now (c.station_here-station.ensures here.station here.there) in
    roll_dead c.args.core.now.own c.args.server m here.server here.known way said (k.live ∙ c.if-not-station.true)

pub returns-then-is_broken-clause-state : goal.returns-then-is_broken-clause-state
returns-then-is_broken-clause-state c = λ files m stand.
    let here = c.in-Some.ensures.state files (of c.args.core.now.own m) stand in
    let k = known files (of c.args.core.now.own m) c.args.core.now.stations c.args.server c.in-Some.at here c.station_here-station.result.now (c.station_here-station.ensures here.station here.there) in
    record { here = here; live = k.live ∙ c.if-not-station.false; settled = settled_broken here.server.whole (length here.server.pending) (k.whole ∙ ap not (broken_is c.station_here-station.result.now c.log-log.result.now c.is_broken.result _ c.log-log.ensures.log c.is_broken.ensures c.if-is_broken.true)) }

pub returns-then-count-ne0-clause-state : goal.returns-then-count-ne0-clause-state
returns-then-count-ne0-clause-state c = λ files m stand way said.
    let here = c.in-Some.ensures.state files (of c.args.core.now.own m) stand in
    let k = known files (of c.args.core.now.own m) c.args.core.now.stations c.args.server c.in-Some.at here c.station_here-station.result.now (c.station_here-station.ensures here.station here.there) in
    roll_pending c.args.core.now.own c.args.server m here.server here.known way said (k.live ∙ c.if-not-station.false)
    (unsettled here.server.whole (length here.server.pending) (k.whole ∙ ap not (broken_is c.station_here-station.result.now c.log-log.result.now c.is_broken.result _ c.log-log.ensures.log c.is_broken.ensures c.if-is_broken.false)) (λ e. c.if-count-ne0.true ((c.pending-count.ensures ∙ ap (λ (w : LogValue). length w.lengths) c.log-log.ensures.log) ∙ (sym k.pending ∙ e))))
    ∙ ap (λ n. Some (refusal.Pending n)) (k.pending ∙ sym (c.pending-count.ensures ∙ ap (λ (w : LogValue). length w.lengths) c.log-log.ensures.log))

pub returns-clause-state : goal.returns-clause-state
returns-clause-state c = λ files m stand.
    let here = c.in-Some.ensures.state files (of c.args.core.now.own m) stand in
    let k = known files (of c.args.core.now.own m) c.args.core.now.stations c.args.server c.in-Some.at here c.station_here-station.result.now (c.station_here-station.ensures here.station here.there) in
    record { here = here; live = k.live ∙ c.if-not-station.false; settled = settled_empty here.server.whole (length here.server.pending) (k.pending ∙ (sym (c.pending-count.ensures ∙ ap (λ (w : LogValue). length w.lengths) c.log-log.ensures.log) ∙ c.if-count-ne0.false)) }
