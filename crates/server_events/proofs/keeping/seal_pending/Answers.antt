-- What the seal kept, and what memory took in of it.
use Rattle.std.proofs.Common.{ℕ, List, length, take, drop, set, Result, Ok, Err, refl, ap, sym, ◌∙◌, subst}
use Rattle.rep_types.specs.declared.state.Call.{Call}
use Rattle.rep_types.specs.declared.state.Call.TheVariants.{Seal}
use Rattle.rep_vault.specs.Contents.{Contents}
use Rattle.rep_vault.specs.Tallies.{Tally}
use Rattle.wal_roll.specs.Blamed.{IsFault}
use Rattle.wal_roll.specs.Log.{Log, LogValue}
use Rattle.region_server.specs.Host.{HostValue}
use Rattle.region_server.specs.declared.host.Kept.{Kept}
use Rattle.rep_model.specs.declared.machine.Server.{Server}
use Rattle.cluster_core.specs.declared.committing.CommitError.{CommitError}
use Rattle.cluster_core.specs.declared.committing.CommitError.TheVariants.{StoreFault, Memory}
use Rattle.cluster_core.specs.declared.parts.Station.{Station}
use Rattle.cluster_core.specs.declared.parts.ClusterCore.{ClusterCore}
use Rattle.cluster_core.specs.Absorbing.{committed_side}
use Rattle.cluster_core.specs.Logs.{log_of}
use Rattle.cluster_core.proofs.Accepted.{same_stations}
use Rattle.cluster_core.proofs.Places.{taken_place}
use Rattle.cluster_core.proofs.Synced.{host_stands, pending_long}
use Rattle.server_events.proofs.Taken.{are_first, found_between, index_now, number_fits, log_fits, only}
use Rattle.server_events.proofs.keeping.seal_pending.Goals as goal

pub unreachable-requires : goal.unreachable-requires
unreachable-requires g c =
    let there = taken_place c.args.core.now.stations c.args.at c.requires.within in
    let k = c.requires.stands there.0 there.1 in
    let given = c.in-Err-Broken.ensures.does there.0 k.0 there.1 k.1 in
    let d = rw c.in-Err-Broken.field-0-is at given in
    d.2

pub unreachable-requires-in-Err-NeedRoll : goal.unreachable-requires-in-Err-NeedRoll
unreachable-requires-in-Err-NeedRoll g c =
    let there = taken_place c.args.core.now.stations c.args.at c.requires.within in
    let k = c.requires.stands there.0 there.1 in
    let given = c.in-Err-NeedRoll.ensures.does there.0 k.0 there.1 k.1 in
    let d = rw c.in-Err-NeedRoll.field-0-is at given in
    d.2

pub returns-in-Ok-absorb-clause-does : goal.returns-in-Ok-absorb-clause-does
returns-in-Ok-absorb-clause-does g c = λ side s here sealed o stands.
    let core : ClusterCore = c.args.core.now in
    let old : Contents = g.V.Vault.contents c.args.own.now in
    let new : Contents = g.V.Vault.contents c.seal_at.new.own in
    let srv : Server = here.server in
    let n : ℕ = length c.in-Ok.kept.entries in
    let log : Log = log_of side.commits srv in
    let was = host_stands old side here.station here.server here.stands sealed in
    let d = c.in-Ok.ensures.does here.station log here.there was in
    let small = c.in-Ok.ensures.server here.station here.there in
    let few = c.in-Ok.ensures.number here.station here.there in
    let frame = c.in-Ok.ensures.frame here.station here.there in
    let host = ap (λ (x : Station). x.host) (c.station_here-station.ensures here.station here.there) in
    let first = are_first old core side s c.args.at here n sealed c.as_slice.result.now c.number-log.result c.synced-from.result (c.as_slice.ensures ∙ d.2.0)
    (c.number-log.ensures ∙ (ap (λ (w : LogValue). w.number) c.log.ensures.log ∙ ap (λ (h : HostValue). h.log.number) host))
    (c.synced-from.ensures ∙ (ap (λ (w : LogValue). w.synced) c.log-2.ensures.log ∙ ap (λ (h : HostValue). h.log.synced) host)) in
    let number = sym (c.server-server.ensures ∙ (ap (λ (h : HostValue). h.log.server) host ∙ ap (λ (w : LogValue). w.server) was.writer.same)) in
    let between : Server = record srv { pending = drop n srv.pending } in
    let absorbed = c.in-Ok-absorb.ensures side srv between (take n srv.pending) (drop n srv.pending) number first refl refl o stands.index in
    let found = found_between old core side s c.args.at here n sealed in
    let stations = d.1 ∙ ap (λ (h : HostValue). set core.stations c.args.at (record here.station { host = h })) d.2.2 in
    record {
      count = d.2.1 ∙ (ap length was.pending ∙ pending_long srv.number srv.log side.commits srv.pending);
      small = number_fits old core side s c.args.at here n sealed new small few frame;
      few = log_fits old core side s c.args.at here n sealed new small few frame;
      only = only old core side s c.args.at here n sealed new small few frame;
      file = d.2.3;
      index = c.forget.new.self;
      core_is = ap (λ (sts : List Station). let x : ClusterCore = record core { stations = sts; index = c.forget.new.self } in x) stations;
      indexed = λ next same none. index_now old core side s c.args.at here n sealed c.forget.new.self next same
          (c.forget.ensures (committed_side srv between (take n srv.pending) side) between next found number same none stands.regions absorbed);
    }

pub returns-in-Ok-absorb-clause-emptied : goal.returns-in-Ok-absorb-clause-emptied
returns-in-Ok-absorb-clause-emptied g c = λ st there.
    let k = c.requires.stands st there in
    let d = c.in-Ok.ensures.does st k.0 there k.1 in
    (d.0, d.1, ap (λ (h : HostValue). h.pending) d.2.2, ap (λ (h : HostValue). h.log.server) d.2.2 ∙ sym (ap (λ (w : LogValue). w.server) k.1.writer.same))

pub returns-in-Err-StoreFault-clause-does : goal.returns-in-Err-StoreFault-clause-does
returns-in-Err-StoreFault-clause-does g c = λ side s here sealed o stands.
    let core : ClusterCore = c.args.core.now in
    let was = host_stands (g.V.Vault.contents c.args.own.now) side here.station here.server here.stands sealed in
    let given = c.in-Err-StoreFault.ensures.does here.station (log_of side.commits here.server) here.there was in
    let d = rw c.in-Err-StoreFault.field-0-is at given in
    let same = d.1 ∙ same_stations core.stations c.args.at here.station d.0 here.there d.2.1 in
    ((λ i. record core { stations = same i }), d.2.2)

pub returns-in-Err-Memory-clause-does : goal.returns-in-Err-Memory-clause-does
returns-in-Err-Memory-clause-does g c = λ side s here sealed o stands unchanged.
    let core : ClusterCore = c.args.core.now in
    let was = host_stands (g.V.Vault.contents c.args.own.now) side here.station here.server here.stands sealed in
    let given = c.in-Err-Memory.ensures.does here.station (log_of side.commits here.server) here.there was in
    let d = rw c.in-Err-Memory.field-0-is at given in
    let same = d.1 ∙ same_stations core.stations c.args.at here.station d.0 here.there d.2.0 in
    ((λ i. record core { stations = same i }), d.2.1)

abbrev count_in : Result Kept CommitError → ℕ
count_in (Ok kept) = 0
count_in (Err (StoreFault n)) = n
count_in (Err (Memory changed)) = 0

-- a host's only call is a seal
pub returns-in-Err-StoreFault-clause-told : goal.returns-in-Err-StoreFault-clause-told
returns-in-Err-StoreFault-clause-told g c = λ count e.
    let there = taken_place c.args.core.now.stations c.args.at c.requires.within in
    let k = c.requires.stands there.0 there.1 in
    let given = c.in-Err-StoreFault.ensures.does there.0 k.0 there.1 k.1 in
    let d = rw c.in-Err-StoreFault.field-0-is at given in
    let old : Tally = g.V.Vault.tally c.args.own.now in
    let new : Tally = g.V.Vault.tally c.seal_at.new.own in
    let blamed = rw c.in-Err-StoreFault.field-0-is at c.in-Err-StoreFault.ensures.blamed in
    let same = ap count_in (rw c.in-Err-StoreFault.field-0-is at e) in
    subst (λ (n : ℕ). IsFault Seal n old new) same (subst (λ (j : Call). IsFault j c.in-Err-StoreFault.count old new) d.2.0 (blamed.fault c.in-Err-StoreFault.field-0-0 c.in-Err-StoreFault.count refl))
