-- The commands of words with one form.
use Rattle.std.specs.Prelude.{ℕ}
use Rattle.rep_types.specs.declared.ids.Cluster.{Cluster}
use Rattle.rep_types.specs.declared.event.Event.TheVariants as event
use Rattle.script_text.specs.declared.command.Command.{Command}
use Rattle.script_text.specs.declared.command.Command.TheVariants as command
use Rattle.script_text.specs.declared.head.OnCluster.{OnCluster}
use Rattle.script_text.specs.declared.head.OnCluster.TheVariants as on_cluster
use Rattle.script_text.specs.declared.head.OnServer.{OnServer}
use Rattle.script_text.specs.declared.head.OnServer.TheVariants as on_server
use Rattle.script_text.specs.declared.head.OnRegion.{OnRegion}
use Rattle.script_text.specs.declared.head.OnRegion.TheVariants as on_region
use Rattle.script_text.specs.declared.head.OnPeer.{OnPeer}
use Rattle.script_text.specs.declared.head.OnPeer.TheVariants as on_peer
use Rattle.script_text.specs.declared.head.OnQueue.{OnQueue}
use Rattle.script_text.specs.declared.head.OnQueue.TheVariants as on_queue
use Rattle.script_text.specs.declared.head.OnPlace.{OnPlace}
use Rattle.script_text.specs.declared.head.OnPlace.TheVariants as on_place
use Rattle.script_text.specs.declared.head.OnFlight.{OnFlight}
use Rattle.script_text.specs.declared.head.OnFlight.TheVariants as on_flight
use Rattle.script_text.specs.declared.head.Alone.{Alone}
use Rattle.script_text.specs.declared.head.Alone.TheVariants as alone

abbrev pub cluster_command : OnCluster → Cluster → Command
cluster_command on_cluster.TransitEnd c = command.Single (event.TransitEnd c)
cluster_command on_cluster.MakeFolder c = command.Single (event.MakeFolder c)
cluster_command on_cluster.PromoteBegin c = command.Single (event.PromoteBegin c)
cluster_command on_cluster.Replay c = command.Single (event.Replay c)
cluster_command on_cluster.PromoteEnd c = command.Single (event.PromoteEnd c)
cluster_command on_cluster.OldQueues c = command.Single (event.OldQueues c)
cluster_command on_cluster.MigrateBegin c = command.Single (event.MigrateBegin c)
cluster_command on_cluster.MigrateEnd c = command.Single (event.MigrateEnd c)
cluster_command on_cluster.SyncAll c = command.SyncAll c
cluster_command on_cluster.Promote c = command.Promote c
cluster_command on_cluster.Queues c = command.Queues c
cluster_command on_cluster.Regions c = command.Regions c

abbrev pub server_command : OnServer → Cluster → ℕ → Command
server_command on_server.Server c s = command.Single (event.Server c s)
server_command on_server.Sync c s = command.Single (event.Sync c s)
server_command on_server.Roll c s = command.Single (event.Roll c s)
server_command on_server.Crash c s = command.Single (event.Crash c s)
server_command on_server.Seal c s = command.Single (event.Seal c s)
server_command on_server.Sweep c s = command.Single (event.Sweep c s)
server_command on_server.SweepRemote c s = command.Single (event.SweepRemote c s)
server_command on_server.Mirror c s = command.Single (event.Mirror c s)

abbrev pub region_command : OnRegion → Cluster → ℕ → Command
region_command on_region.OpenEnd c r = command.Single (event.OpenEnd c r)
region_command on_region.CloseBegin c r = command.Single (event.CloseBegin c r)
region_command on_region.CloseEnd c r = command.Single (event.CloseEnd c r)
region_command on_region.Recover c r = command.Single (event.Recover c r)
region_command on_region.Flush c r = command.Single (event.Flush c r)
region_command on_region.Compact c r = command.Single (event.Compact c r)
region_command on_region.Close c r = command.Close c r

abbrev pub peer_command : OnPeer → Cluster → ℕ → Command
peer_command on_peer.Enable c p = command.Single (event.Enable c p)
peer_command on_peer.Disable c p = command.Single (event.Disable c p)
peer_command on_peer.Remove c p = command.Single (event.Remove c p)
peer_command on_peer.MakeSerial c p = command.Single (event.MakeSerial c p)

abbrev pub queue_command : OnQueue → Cluster → ℕ → ℕ → Command
queue_command on_queue.Ship c p s = command.Ship c p s
queue_command on_queue.Migrate c p s = command.Single (event.Migrate c p s)

abbrev pub place_command : OnPlace → Cluster → ℕ → ℕ → Command
place_command on_place.OpenBegin c r s = command.Single (event.OpenBegin c r s)
place_command on_place.Open c r s = command.Open c r s
place_command on_place.Move c r s = command.Move c r s

abbrev pub flight_command : OnFlight → ℕ → Command
flight_command on_flight.Deliver f = command.Single (event.Deliver f)
flight_command on_flight.Lose f = command.Single (event.Lose f)
flight_command on_flight.Confirm f = command.Single (event.Confirm f)

abbrev pub alone_command : Alone → Command
alone_command alone.Drain = command.Drain
alone_command alone.Status = command.Status
alone_command alone.Divider = command.Divider
