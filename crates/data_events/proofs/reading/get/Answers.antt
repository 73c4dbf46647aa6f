use Rattle.std.proofs.Common.{sym, subst, Result}
use Rattle.rep_types.specs.declared.event.Event.TheVariants as event
use Rattle.rep_types.specs.declared.reply.Reply.{Reply}
use Rattle.cluster_core.specs.declared.parts.CoreError.{CoreError}
use Rattle.cluster_core.specs.Does.{Answers}
use Rattle.cluster_core.proofs.Lookups.{seat_is}
use Rattle.rep_model.specs.State.{of}
use Rattle.data_events.proofs.Shown.{get_refused, get_unplaced, get_answers}
use Rattle.data_events.proofs.reading.get.Goals as goal

pub returns-in-None-clause-does : goal.returns-in-None-clause-does
returns-in-None-clause-does c = λ way k m reached stands. get_refused way c.args.core.now.own c.args.table.now c.args.row.now m k c.args.core.now stands (sym c.in-None.ensures)

pub returns-in-None-seat_of-clause-does : goal.returns-in-None-seat_of-clause-does
returns-in-None-seat_of-clause-does c = λ way k m reached stands.
    get_unplaced way c.args.core.now.own c.args.table.now c.args.row.now m k c.args.core.now c.in-Some.kept.now c.located_number.result stands (sym c.in-Some.ensures)
    (c.in-None-seat_of.ensures.state k (of c.args.core.now.own m) stands.regions stands.servers) (c.located_number.ensures (of c.args.core.now.own m) stands.regions)

pub returns-in-Some-seat_of-clause-does : goal.returns-in-Some-seat_of-clause-does
returns-in-Some-seat_of-clause-does c = λ way k m reached stands.
    subst (λ (r : Result Reply CoreError). Answers way c.args.core.now.own (event.Get c.args.core.now.own c.args.table.now c.args.row.now) m k c.args.core.now k c.args.core.now r) (sym c.shown.ensures.value)
    (get_answers way c.args.core.now.own c.args.table.now c.args.row.now m k c.args.core.now c.in-Some.kept.now _ c.get.result stands (sym c.in-Some.ensures)
    (seat_is k (of c.args.core.now.own m) c.args.core.now.stations c.args.table.now c.args.row.now _ _ (c.in-Some-seat_of.ensures.state k (of c.args.core.now.own m) stands.regions stands.servers)) c.get.ensures)
