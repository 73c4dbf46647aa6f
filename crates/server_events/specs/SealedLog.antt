-- What the seal of a dead server's log leaves of memory, the store and the state.
use Rattle.std.specs.Prelude.{◌+◌, ◌≡◌, true, false, [], length, take, Result, Ok, Err}
use Rattle.rep_types.specs.declared.ids.Cluster.{Cluster}
use Rattle.rep_vault.specs.Contents.{Contents}
use Rattle.region_server.specs.declared.host.Kept.{Kept}
use Rattle.rep_model.specs.declared.machine.Side.{Side}
use Rattle.rep_model.specs.declared.machine.Server.{Server}
use Rattle.cluster_core.specs.declared.parts.ClusterCore.{ClusterCore}
use Rattle.cluster_core.specs.declared.committing.CommitError.{CommitError}
use Rattle.cluster_core.specs.declared.committing.CommitError.TheVariants as error
use Rattle.cluster_core.specs.Absorbing.{committed_side}
use Rattle.cluster_core.specs.Stands.{Stands}

-- the server, sealed with nothing pending
abbrev pub sealed_server : Server → Server
sealed_server srv = record srv { sealed = true; pending = [] }

-- at Ok the first entries that were pending are committed, and the server is sealed; after a call that failed all is as before
abbrev pub SealsOff : Cluster → Contents → ClusterCore → Side → Server → Contents → ClusterCore → Result Kept CommitError → Type 0
SealsOff own old core side srv new core' (Ok kept) =
    let n = length kept.entries in
    (n + kept.dropped ≡ length srv.pending) × Stands own new core' (committed_side srv (sealed_server srv) (take n srv.pending) side)
SealsOff own old core side srv new core' (Err (error.StoreFault count)) = (core' ≡ core) × (new ≡ old)
SealsOff own old core side srv new core' (Err (error.Memory changed)) = changed ≡ false → (core' ≡ core) × (new ≡ old)
