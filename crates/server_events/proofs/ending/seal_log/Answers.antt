-- The sealed log's station gives way to one that counts as sealed.
use Rattle.std.proofs.Common.{ℕ, length, take, sym, subst, Err, true}
use Rattle.rep_types.specs.declared.ids.Cluster.{Cluster}
use Rattle.rep_vault.specs.Contents.{Contents}
use Rattle.region_server.specs.declared.host.Kept.{Kept}
use Rattle.rep_model.specs.declared.machine.Side.{Side}
use Rattle.rep_model.specs.declared.machine.Server.{Server}
use Rattle.cluster_core.specs.declared.committing.CommitError.{CommitError}
use Rattle.cluster_core.specs.declared.committing.CommitError.TheVariants.{StoreFault, Memory}
use Rattle.cluster_core.specs.declared.parts.Station.{Station}
use Rattle.cluster_core.specs.declared.parts.ClusterCore.{ClusterCore}
use Rattle.cluster_core.specs.Absorbing.{committed_side}
use Rattle.cluster_core.specs.Logs.{log_of}
use Rattle.cluster_core.specs.Stands.{Stands}
use Rattle.server_events.specs.Kept.{sealed_host, Keeps}
use Rattle.server_events.specs.SealedLog.{sealed_server, SealsOff}
use Rattle.server_events.proofs.Emptied.{still_within}
use Rattle.server_events.proofs.Shut.{kept_there, core_left}
use Rattle.server_events.proofs.SealedOff.{sealed_off}
use Rattle.server_events.proofs.ending.seal_log.Goals as goal

pub close-requires : goal.close-requires
close-requires g c = still_within c.args.core.now.stations c.seal_pending.new.core.stations c.args.at c.requires.within c.in-Ok.ensures.emptied

pub returns-in-Ok-clause-does : goal.returns-in-Ok-clause-does
returns-in-Ok-clause-does g c = λ side s here sealed dead o stands.
    let core : ClusterCore = c.args.core.now in
    let mid : ClusterCore = c.seal_pending.new.core in
    let old : Contents = g.V.Vault.contents c.args.own.now in
    let new : Contents = g.V.Vault.contents c.seal_pending.new.own in
    let srv : Server = here.server in
    let kept : Kept = c.in-Ok.kept in
    let k = c.in-Ok.ensures.does side s here sealed o stands in
    let kept_station : Station = record here.station { host = sealed_host (length kept.entries) (log_of side.commits srv) here.station.host } in
    let st : Station = record kept_station { sealed = true } in
    let there = kept_there core.own old new core mid side s c.args.at here kept stands o k in
    let is = core_left core.own old new core mid side s c.args.at here kept stands o k st c.close.new.stations (c.close.ensures kept_station there) in (
      k.count,
      subst (λ (x : ClusterCore). Stands core.own new x (committed_side srv (sealed_server srv) (take (length kept.entries) srv.pending) side)) (sym is)
          (sealed_off core.own old new core mid side s c.args.at here kept stands o k dead),
    )

-- what failed left all as it was
of_error : (own : Cluster) (old new : Contents) (core core' : ClusterCore) (side : Side) (srv : Server) (st : Station) (at : ℕ) (e : CommitError)
    → Keeps old core side srv st at new core' (Err e) → SealsOff own old core side srv new core' (Err e)
of_error own old new core core' side srv st at (StoreFault count) k = k
of_error own old new core core' side srv st at (Memory changed) k = k

pub returns-in-Err-clause-does : goal.returns-in-Err-clause-does
returns-in-Err-clause-does g c = λ side s here sealed dead o stands.
    let core : ClusterCore = c.args.core.now in
    of_error core.own (g.V.Vault.contents c.args.own.now) (g.V.Vault.contents c.seal_pending.new.own) core c.seal_pending.new.core side here.server here.station c.args.at c.in-Err.error
    (c.in-Err.ensures.does side s here sealed o stands)
