-- What the seal of a server's log leaves of memory and the store, whatever becomes of the server.
use Rattle.std.specs.Prelude.{ℕ, ◌+◌, ◌<◌, ◌^◌, ◌≡◌, false, List, [], length, take, Some, slice_get, slice_set, Result, Ok, Err}
use Rattle.rep_vault.specs.Contents.{Contents}
use Rattle.wal_roll.specs.Log.{Log, wal, log_name, writer_of}
use Rattle.wal_roll.specs.Kept.{IsSealed, kept_log}
use Rattle.wal_roll.specs.Steps.{OnlyFile}
use Rattle.region_server.specs.Host.{HostValue}
use Rattle.region_server.specs.declared.host.Kept.{Kept}
use Rattle.rep_model.specs.declared.machine.Side.{Side}
use Rattle.rep_model.specs.declared.machine.Server.{Server}
use Rattle.cluster_core.specs.declared.parts.ClusterCore.{ClusterCore}
use Rattle.cluster_core.specs.declared.parts.Index.{Index}
use Rattle.cluster_core.specs.declared.parts.Station.{Station}
use Rattle.cluster_core.specs.declared.committing.CommitError.{CommitError}
use Rattle.cluster_core.specs.declared.committing.CommitError.TheVariants as error
use Rattle.cluster_core.specs.Absorbing.{committed_side}
use Rattle.cluster_core.specs.Logs.{log_of}
use Rattle.cluster_core.specs.Memory.{IndexStands}

-- the host of a sealed log, of which the first n pending entries were kept
abbrev pub sealed_host : ℕ → Log → HostValue → HostValue
sealed_host n log h = record { log = writer_of (kept_log n log); pending = []; tickets = h.tickets }

-- the station at this place is of the same server, and has nothing pending
abbrev pub IsEmptied : List Station → ℕ → List Station → Type 0
IsEmptied old at new = (st : Station) → slice_get old at ≡ Some st → (h : HostValue) × (new ≡ slice_set old at (record st { host = h })) × (h.pending ≡ []) × (h.log.server ≡ st.host.log.server)

-- the log's file is sealed, its host has nothing pending, and of the pending entries the index has the kept ones as commits, and
-- no others
pub record HasKept (old : Contents) (core : ClusterCore) (side : Side) (srv : Server) (st : Station) (at : ℕ) (new : Contents) (core' : ClusterCore) (kept : Kept) : Type 0 where
  pub count : length kept.entries + kept.dropped ≡ length srv.pending
  pub small : srv.number < 2 ^ 32
  pub few : srv.log < 2 ^ 32
  pub only : OnlyFile wal (log_name srv.number srv.log) old new
  pub file : IsSealed (new.files wal (log_name srv.number srv.log)) (log_of side.commits srv) (length kept.entries)
  pub index : Index
  pub core_is : core' ≡ record core { stations = slice_set core.stations at (record st { host = sealed_host (length kept.entries) (log_of side.commits srv) st.host }); index = index }
  pub indexed : (next : Server) → next.number ≡ srv.number → next.pending ≡ [] → IndexStands index (committed_side srv next (take (length kept.entries) srv.pending) side)

-- after a call that failed all is as before
abbrev pub Keeps : Contents → ClusterCore → Side → Server → Station → ℕ → Contents → ClusterCore → Result Kept CommitError → Type 0
Keeps old core side srv st at new core' (Ok kept) = HasKept old core side srv st at new core' kept
Keeps old core side srv st at new core' (Err (error.StoreFault count)) = (core' ≡ core) × (new ≡ old)
Keeps old core side srv st at new core' (Err (error.Memory changed)) = changed ≡ false → (core' ≡ core) × (new ≡ old)
