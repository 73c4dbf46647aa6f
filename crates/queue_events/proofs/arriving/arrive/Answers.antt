use Rattle.std.proofs.Common.{Bool, Ok, sym, subst}
use Rattle.rep_types.specs.declared.reply.Cause.TheVariants as cause
use Rattle.rep_types.specs.declared.state.SyncState.TheVariants as sync
use Rattle.rep_types.specs.declared.state.Phase.TheVariants as phase
use Rattle.rep_vault.specs.Contents.{Contents}
use Rattle.rep_model.specs.State.{of}
use Rattle.cluster_core.specs.declared.parts.ClusterCore.{ClusterCore}
use Rattle.queue_events.specs.Arriving.{Arrives}
use Rattle.queue_events.specs.declared.arriving.Arrived.TheVariants.{Stopped}
use Rattle.queue_events.proofs.Arrivals.{wrong_state, not_served}
use Rattle.queue_events.proofs.arriving.arrive.Goals as goal

pub returns-then-synchronous-clause-does : goal.returns-then-synchronous-clause-does
returns-then-synchronous-clause-does g c = λ m way stands.
    let core : ClusterCore = c.args.core.now in
    let old : Contents = g.V.Vault.contents c.args.own.now in
    subst (λ (b : Bool). Arrives core.own c.args.peer b c.args.form.now m old core old core (Ok (Stopped (cause.WrongState sync.Absent phase.Idle)))) (sym c.if-synchronous.true) (wrong_state core.own old core m c.args.peer c.args.form.now way stands)

pub returns-in-None-clause-does : goal.returns-in-None-clause-does
returns-in-None-clause-does g c = λ m way stands.
    let core : ClusterCore = c.args.core.now in
    let old : Contents = g.V.Vault.contents c.args.own.now in
    subst (λ (b : Bool). Arrives core.own c.args.peer b c.args.form.now m old core old core (Ok (Stopped (cause.NotServing c.located_number.result)))) (sym c.if-synchronous.false)
    (not_served core.own old core m c.args.peer c.args.form.now c.table-table.result.now c.row-row.result.now c.located_number.result c.table-table.ensures c.row-row.ensures way stands (c.in-None.ensures.state old (of core.own m) stands.regions stands.servers) (c.located_number.ensures (of core.own m) stands.regions))
