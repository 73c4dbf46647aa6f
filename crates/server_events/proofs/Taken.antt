-- A server's log was sealed: what memory takes in of the pending entries that were kept.
use Rattle.std.proofs.Common.{ℕ, zero, suc, ◌<◌, ◌≡◌, ◌^◌, List, [], ◌∷◌, ◌++◌, find, take, drop, Some, false, refl, ap, sym, ◌∙◌, subst, eq-eqb}
use Rattle.std.proofs.lemmas.List.{take-append-drop}
use Rattle.rep_types.specs.declared.entry.Entry.{Entry}
use Rattle.rep_vault.specs.Contents.{Contents}
use Rattle.wal_roll.specs.Log.{LogValue, wal, log_name, writer_of}
use Rattle.wal_roll.specs.Steps.{OnlyFile}
use Rattle.region_server.specs.Host.{IsHost}
use Rattle.rep_model.specs.Keyed.{replace}
use Rattle.rep_model.specs.State.{is_server}
use Rattle.rep_model.specs.Commits.{commit_of}
use Rattle.rep_model.specs.declared.machine.Side.{Side}
use Rattle.rep_model.specs.declared.machine.Server.{Server}
use Rattle.rep_model.specs.declared.machine.Commit.{Commit}
use Rattle.rep_model.specs.declared.machine.Pending.{Pending}
use Rattle.rep_laws.proofs.Finding.{find_replaced}
use Rattle.cluster_core.specs.declared.parts.Index.{Index}
use Rattle.cluster_core.specs.declared.parts.ClusterCore.{ClusterCore}
use Rattle.cluster_core.specs.Absorbing.{standing_so, committed_side, AreFirst}
use Rattle.cluster_core.specs.Entries.{entry_of, pending_entries}
use Rattle.cluster_core.specs.Logs.{log_of}
use Rattle.cluster_core.specs.Lookups.{HasStation}
use Rattle.cluster_core.specs.Memory.{IndexStands}
use Rattle.cluster_core.proofs.Places.{replace_twice}
use Rattle.cluster_core.proofs.Synced.{host_stands, frames_before}

-- the first pending entries, as their log has them
pub pending_taken : (s l : ℕ) (C : List Commit) (n : ℕ) (ps : List Pending) → pending_entries s l C (take n ps) ≡ take n (pending_entries s l C ps)
pending_taken s l C zero ps = refl
pending_taken s l C (suc n) [] = refl
pending_taken s l C (suc n) (p ∷ ps) = ap (λ es. entry_of (commit_of s l C p) ∷ es) (pending_taken s l (C ++ commit_of s l C p ∷ []) n ps)

module _ (old : Contents) (core : ClusterCore) (side : Side) (s at : ℕ) (here : HasStation old side core.stations s at) (n : ℕ) (sealed : here.server.sealed ≡ false) where
  -- memory in between: what the seal dropped is pending still
  abbrev between : Server
  between = record here.server { pending = drop n here.server.pending }

  was_host : IsHost old here.station.host (log_of side.commits here.server)
  was_host = host_stands old side here.station here.server here.stands sealed

  log_is : here.station.host.log ≡ writer_of (log_of side.commits here.server)
  log_is = was_host.writer.same

  known : find (is_server here.server.number) side.servers ≡ Some here.server
  known = subst (λ k. find (is_server k) side.servers ≡ Some here.server) (sym here.number) here.known

  pub are_first : (entries : List Entry) (log from : ℕ) → entries ≡ take n here.station.host.pending → log ≡ here.station.host.log.number → from ≡ here.station.host.log.synced
      → AreFirst side here.server log from entries (take n here.server.pending) (drop n here.server.pending)
  are_first entries log from e l f = record {
    found = known;
    log_is = sym (l ∙ ap (λ (w : LogValue). w.number) log_is);
    split = sym (take-append-drop n here.server.pending);
    entries_are = e ∙ (ap (take n) was_host.pending ∙ sym (pending_taken here.server.number here.server.log side.commits n here.server.pending));
    from_is = f ∙ frames_before side.commits here.server here.station.host.log log_is;
  }

  pub found_between : find (is_server here.server.number) (replace (is_server here.server.number) (record here.server { pending = drop n here.server.pending }) side.servers) ≡ Some (record here.server { pending = drop n here.server.pending })
  found_between = find_replaced (is_server here.server.number) between here.server side.servers (eq-eqb here.server.number here.server.number refl) known

  -- whoever the server is then
  pub index_now : (index : Index) (next : Server) → next.number ≡ here.server.number
      → IndexStands index (standing_so next (committed_side here.server (record here.server { pending = drop n here.server.pending }) (take n here.server.pending) side))
      → IndexStands index (committed_side here.server next (take n here.server.pending) side)
  index_now index next same k =
      let once : replace (is_server next.number) next (replace (is_server here.server.number) between side.servers) ≡ replace (is_server here.server.number) next side.servers =
      ap (λ m. replace (is_server m) next (replace (is_server here.server.number) between side.servers)) same
      ∙ replace_twice (is_server here.server.number) between next side.servers (eq-eqb here.server.number here.server.number refl) in
      subst (λ (vs : List Server). IndexStands index (record (committed_side here.server next (take n here.server.pending) side) { servers = vs })) once k

  -- the log's name, by its server in the state
  module _ (new : Contents) (small : here.station.host.log.server < 2 ^ 32) (few : here.station.host.log.number < 2 ^ 32) (frame : OnlyFile wal (log_name here.station.host.log.server here.station.host.log.number) old new) where
    pub number_fits : here.server.number < 2 ^ 32
    number_fits = subst (λ k. k < 2 ^ 32) (ap (λ (w : LogValue). w.server) log_is) small

    pub log_fits : here.server.log < 2 ^ 32
    log_fits = subst (λ k. k < 2 ^ 32) (ap (λ (w : LogValue). w.number) log_is) few

    pub only : OnlyFile wal (log_name here.server.number here.server.log) old new
    only = subst (λ f. OnlyFile wal f old new) (ap (λ (w : LogValue). log_name w.server w.number) log_is) frame
