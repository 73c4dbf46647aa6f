-- The row of a seal, and what memory and the store stand for after it.
use Rattle.std.proofs.Common.{ℕ, Err, refl, ap, sym, ◌∙◌, subst}
use Rattle.std.proofs.lemmas.Option.{same_Some}
use Rattle.rep_types.specs.declared.reply.Reply.TheVariants as reply
use Rattle.rep_vault.specs.Contents.{Contents}
use Rattle.region_server.specs.Host.{Stands as HostStands}
use Rattle.rep_model.specs.Plan.{told}
use Rattle.rep_model.specs.LogEvents.{seal_plan}
use Rattle.rep_model.specs.State.{of}
use Rattle.cluster_core.specs.declared.parts.Station.{Station}
use Rattle.cluster_core.specs.declared.parts.ClusterCore.{ClusterCore}
use Rattle.cluster_core.specs.Does.{Does}
use Rattle.cluster_core.specs.Logs.{log_of}
use Rattle.cluster_core.specs.Stands.{Stands}
use Rattle.cluster_core.proofs.Reaching.{orderly}
use Rattle.cluster_core.proofs.Answering.{plan_refused}
use Rattle.cluster_core.proofs.Synced.{host_stands}
use Rattle.server_events.proofs.SealDone.{seal_failed, seal_done}
use Rattle.server_events.proofs.sealing.seal.Goals as goal

pub returns-in-Err-clause-does : goal.returns-in-Err-clause-does
returns-in-Err-clause-does g c = λ way m reached pair stands.
    let core : ClusterCore = c.args.core.now in
    let old : Contents = g.V.Vault.contents c.args.own.now in
    plan_refused core.own (seal_plan core.own c.args.server (reply.Refused c.in-Err.why) m) m old core c.in-Err.why (c.in-Err.ensures.state old m stands.servers (reply.Refused c.in-Err.why)) stands

pub seal_log-requires-clause-stands : goal.seal_log-requires-clause-stands
seal_log-requires-clause-stands g c = λ st there.
    let core : ClusterCore = c.args.core.now in
    let old : Contents = g.V.Vault.contents c.args.own.now in
    let s = c.requires in
    let m = s.1 in
    let k = c.in-Ok.ensures.state old m s.4.servers in
    subst (λ (x : Station). HostStands old x.host) (same_Some k.here.station st (sym k.here.there ∙ there)) (log_of (of core.own m).commits k.here.server, host_stands old (of core.own m) k.here.station k.here.server k.here.stands k.unsealed)

pub returns-in-Ok-seal_log-clause-does : goal.returns-in-Ok-seal_log-clause-does
returns-in-Ok-seal_log-clause-does g c = λ way m reached pair stands.
    let core : ClusterCore = c.args.core.now in
    let old : Contents = g.V.Vault.contents c.args.own.now in
    let k = c.in-Ok.ensures.state old m stands.servers in
    let d = c.in-Ok-seal_log.ensures.does (of core.own m) c.args.server k.here k.unsealed k.dead (orderly core.own pair m reached) stands in
    let new : Contents = g.V.Vault.contents c.seal_log.new.own in
    let dropped : ℕ = c.in-Ok-seal_log.kept.dropped in
    subst (λ n. Does core.own (told (seal_plan core.own c.args.server (reply.Sealed n dropped) m) (reply.Sealed n dropped) m) m new c.seal_log.new.core (reply.Sealed n dropped)) (sym c.len.ensures)
    (seal_done core.own c.args.server m k.here.server k.here.known k.dead k.unsealed new c.seal_log.new.core _ _ d.0 d.1)

pub returns-in-Err-StoreFault-clause-does : goal.returns-in-Err-StoreFault-clause-does
returns-in-Err-StoreFault-clause-does g c = λ way m reached pair stands.
    let core : ClusterCore = c.args.core.now in
    let old : Contents = g.V.Vault.contents c.args.own.now in
    let new : Contents = g.V.Vault.contents c.seal_log.new.own in
    let k = c.in-Ok.ensures.state old m stands.servers in
    let given = c.in-Err-StoreFault.ensures.does (of core.own m) c.args.server k.here k.unsealed k.dead (orderly core.own pair m reached) stands in
    let d = rw c.in-Err-StoreFault.field-0-is at given in
    seal_failed core.own c.args.server m k.here.server k.here.known k.dead k.unsealed new c.seal_log.new.core c.in-Err-StoreFault.count
    (subst (λ (x : ClusterCore). Stands core.own new x (of core.own m)) (sym d.0) (subst (λ (x : Contents). Stands core.own x core (of core.own m)) (sym d.1) stands))

pub returns-in-Err-StoreFault-clause-told : goal.returns-in-Err-StoreFault-clause-told
returns-in-Err-StoreFault-clause-told g c =
    let rise = c.in-Err-StoreFault.ensures.told c.in-Err-StoreFault.count (ap (λ e. Err e) c.in-Err-StoreFault.field-0-is) in
    record { store_is = refl; kind = rise.kind; count = rise.count; rose = rise.rose }

pub returns-in-Err-Memory-clause-does : goal.returns-in-Err-Memory-clause-does
returns-in-Err-Memory-clause-does g c = λ way m reached pair stands unchanged.
    let core : ClusterCore = c.args.core.now in
    let old : Contents = g.V.Vault.contents c.args.own.now in
    let k = c.in-Ok.ensures.state old m stands.servers in
    let given = c.in-Err-Memory.ensures.does (of core.own m) c.args.server k.here k.unsealed k.dead (orderly core.own pair m reached) stands in
    let d = rw c.in-Err-Memory.field-0-is at given in
    d unchanged
