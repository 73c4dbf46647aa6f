-- The row of a sync, and what memory and the store stand for after it.
use Rattle.std.proofs.Common.{◌≡◌, false, Err, refl, ap, sym, ◌∙◌, subst}
use Rattle.std.proofs.lemmas.Option.{same_Some}
use Rattle.rep_vault.specs.Contents.{Contents}
use Rattle.region_server.specs.Host.{IsHost}
use Rattle.wal_roll.specs.Log.{Log}
use Rattle.rep_model.specs.State.{of}
use Rattle.cluster_core.specs.declared.parts.Station.{Station}
use Rattle.cluster_core.specs.declared.parts.ClusterCore.{ClusterCore}
use Rattle.cluster_core.specs.Logs.{log_of}
use Rattle.cluster_core.proofs.Reaching.{orderly}
use Rattle.rep_model.specs.LogEvents.{sync_plan}
use Rattle.cluster_core.proofs.Answering.{plan_refused}
use Rattle.server_events.proofs.Refused.{opened, unbroken}
use Rattle.server_events.proofs.SyncDone.{sync_failed, sync_done}
use Rattle.server_events.proofs.syncing.sync.Goals as goal

pub returns-in-Err-clause-does : goal.returns-in-Err-clause-does
returns-in-Err-clause-does g c = λ way m reached pair stands.
    let core : ClusterCore = c.args.core.now in
    let old : Contents = g.V.Vault.contents c.args.own.now in
    plan_refused core.own (sync_plan core.own c.args.server m) m old core c.in-Err.why (c.in-Err.ensures.state old m stands.servers) stands

pub commit-requires-clause-stands : goal.commit-requires-clause-stands
commit-requires-clause-stands g c = λ st there.
    let core : ClusterCore = c.args.core.now in
    let old : Contents = g.V.Vault.contents c.args.own.now in
    let s = c.requires in
    let m = s.1 in
    let k = c.in-Ok.ensures.state old m s.4.servers in
    let r = opened old (of core.own m) core.stations c.args.server c.in-Ok.at k.here (orderly core.own s.3 m s.2) k.live in
    let same : k.here.station ≡ st = same_Some k.here.station st (sym k.here.there ∙ there) in
    subst (λ (x : Station). ((log : Log) × IsHost old x.host log) × (x.host.log.broken ≡ false)) same
    ((log_of (of core.own m).commits k.here.server, r.host), unbroken old (of core.own m) core.stations c.args.server c.in-Ok.at k.here k.whole)

pub returns-in-Ok-commit-clause-does : goal.returns-in-Ok-commit-clause-does
returns-in-Ok-commit-clause-does g c = λ way m reached pair stands.
    let core : ClusterCore = c.args.core.now in
    let old : Contents = g.V.Vault.contents c.args.own.now in
    let k = c.in-Ok.ensures.state old m stands.servers in
    let o = orderly core.own pair m reached in
    let r = opened old (of core.own m) core.stations c.args.server c.in-Ok.at k.here o k.live in
    let d = c.in-Ok-commit.ensures.does (of core.own m) c.args.server k.here r.sealed o stands in
    sync_done core.own c.args.server m k.here.server (g.V.Vault.contents c.commit.new.own) c.commit.new.core _ _ pair reached k.here.known k.live k.whole stands.link (c.len.ensures ∙ d.0) d.1 d.2

pub returns-in-Err-StoreFault-clause-does : goal.returns-in-Err-StoreFault-clause-does
returns-in-Err-StoreFault-clause-does g c = λ way m reached pair stands.
    let core : ClusterCore = c.args.core.now in
    let old : Contents = g.V.Vault.contents c.args.own.now in
    let k = c.in-Ok.ensures.state old m stands.servers in
    let o = orderly core.own pair m reached in
    let r = opened old (of core.own m) core.stations c.args.server c.in-Ok.at k.here o k.live in
    let given = c.in-Err-StoreFault.ensures.does (of core.own m) c.args.server k.here r.sealed o stands in
    let d = rw c.in-Err-StoreFault.field-0-is at given in
    sync_failed core.own c.args.server c.in-Err-StoreFault.count m k.here.server (g.V.Vault.contents c.commit.new.own) c.commit.new.core k.here.known k.live k.whole d

pub returns-in-Err-StoreFault-clause-told : goal.returns-in-Err-StoreFault-clause-told
returns-in-Err-StoreFault-clause-told g c =
    let rise = c.in-Err-StoreFault.ensures.told c.in-Err-StoreFault.count (ap (λ e. Err e) c.in-Err-StoreFault.field-0-is) in
    record { store_is = refl; kind = rise.kind; count = rise.count; rose = rise.rose }

pub returns-in-Err-Memory-clause-does : goal.returns-in-Err-Memory-clause-does
returns-in-Err-Memory-clause-does g c = λ way m reached pair stands unchanged.
    let core : ClusterCore = c.args.core.now in
    let old : Contents = g.V.Vault.contents c.args.own.now in
    let k = c.in-Ok.ensures.state old m stands.servers in
    let o = orderly core.own pair m reached in
    let r = opened old (of core.own m) core.stations c.args.server c.in-Ok.at k.here o k.live in
    let given = c.in-Err-Memory.ensures.does (of core.own m) c.args.server k.here r.sealed o stands in
    let d = rw c.in-Err-Memory.field-0-is at given in
    d unchanged
