-- What the end of a server's log leaves of memory, the store and the state, where its next log follows.
use Rattle.std.specs.Prelude.{◌+◌, ◌≡◌, false, [], length, take, Result, Ok, Err}
use Rattle.rep_types.specs.declared.ids.Cluster.{Cluster}
use Rattle.rep_vault.specs.Contents.{Contents}
use Rattle.wal_roll.specs.Log.{LogValue}
use Rattle.region_server.specs.Host.{HostValue}
use Rattle.rep_model.specs.LogEvents.{next_log}
use Rattle.rep_model.specs.declared.machine.Side.{Side}
use Rattle.rep_model.specs.declared.machine.Server.{Server}
use Rattle.cluster_core.specs.declared.parts.ClusterCore.{ClusterCore}
use Rattle.cluster_core.specs.declared.committing.CommitError.{CommitError}
use Rattle.cluster_core.specs.declared.committing.CommitError.TheVariants as error
use Rattle.cluster_core.specs.Absorbing.{committed_side}
use Rattle.cluster_core.specs.Entries.{tickets_of}
use Rattle.cluster_core.specs.Stands.{waiting, Stands}
use Rattle.server_events.specs.declared.ending.Ended.{Ended}

-- a host that has this log, and nothing pending
abbrev pub new_host : LogValue → HostValue
new_host w = record { log = w; pending = []; tickets = [] }

-- at Ok the first entries that were pending are committed, and the server has its next log; after a call that failed all is as
-- before
abbrev pub RollsOn : Cluster → Contents → ClusterCore → Side → Server → Contents → ClusterCore → Result Ended CommitError → Type 0
RollsOn own old core side srv new core' (Ok ended) =
    let n = length ended.entries in
    (n + ended.dropped ≡ length srv.pending) × (ended.tickets ≡ waiting srv.live (tickets_of srv.pending)) × Stands own new core' (committed_side srv (next_log false srv) (take n srv.pending) side)
RollsOn own old core side srv new core' (Err (error.StoreFault count)) = (core' ≡ core) × (new ≡ old)
RollsOn own old core side srv new core' (Err (error.Memory changed)) = Unit {0}
