-- What is seen of a cluster: a queue, a region, and its part of the status line; and the status line of both.
use Rattle.std.specs.Prelude.{ℕ, ◌+◌, Bool, List, find, filter, length, map, Option, Some, None, if◌then◌else◌}
use Rattle.std.specs.List.{range_with_len}
use Rattle.std.specs.Option.{option_map}
use Rattle.rep_types.specs.declared.ids.Cluster.{Cluster}
use Rattle.rep_types.specs.declared.view.QueueView.{QueueView}
use Rattle.rep_types.specs.declared.view.RegionLine.{RegionLine}
use Rattle.rep_types.specs.declared.view.SideLine.{SideLine}
use Rattle.rep_types.specs.declared.view.StatusLine.{StatusLine}
use Rattle.rep_model.specs.Keyed.{given, if_some}
use Rattle.rep_model.specs.State.{is_server, is_region, is_peer, is_queue}
use Rattle.rep_model.specs.Commits.{commit_count}
use Rattle.rep_model.specs.Peers.{is_removed}
use Rattle.rep_model.specs.Places.{is_gone}
use Rattle.rep_model.specs.Queues.{queue}
use Rattle.rep_model.specs.declared.machine.Hosted.{Hosted}
use Rattle.rep_model.specs.declared.machine.Machine.{Machine}
use Rattle.rep_model.specs.declared.machine.Peer.{Peer}
use Rattle.rep_model.specs.declared.machine.Queue.{Queue}
use Rattle.rep_model.specs.declared.machine.Side.{Side}

-- a queue: its owner, how many commits are left in it, and its outstanding flight
abbrev pub queue_view : Peer → Queue → Side → QueueView
queue_view p q side = record { owner = q.owner; left = length (queue p q.server side.commits); flight = q.flight }

-- the peer, if it was added and isn't removed
abbrev pub peer_in : ℕ → Side → Option Peer
peer_in p side = given (find (is_peer p) side.peers) None (λ x. if is_removed x.standing then None else Some x)

-- the queue of such a peer for the logs of a server, where it has one
abbrev pub queue_seen : ℕ → ℕ → Side → Option QueueView
queue_seen p s side = given (peer_in p side) None (λ x. option_map (λ q. queue_view x q side) (find (is_queue x.number s) side.queues))

-- a region; one that is Gone has a final barrier, one more than its commits
abbrev pub region_view : Cluster → Hosted → Side → RegionLine
region_view c h side = record {
  cluster = c;
  region = h.region.number;
  table = h.region.table.name;
  low = h.region.low;
  high = h.region.high;
  place = h.place;
  barriers = h.opens;
  final_barrier = if is_gone h.place then Some (commit_count h.region.number side.commits + 1) else None;
  parents = h.region.parents;
}

-- the region of this number, where there is one
abbrev pub region_seen : Cluster → ℕ → Side → Option RegionLine
region_seen c r side = option_map (λ h. region_view c h side) (find (is_region r) side.regions)

-- the numbers from 1 to n
abbrev pub numbers : ℕ → List ℕ
numbers n = map (λ k. k + 1) (range_with_len 0 n)

abbrev pub lives_in : Side → ℕ → Bool
lives_in side s = if_some (find (is_server s) side.servers) (λ x. x.live)

-- the live servers, by number
abbrev pub live_servers : Side → List ℕ
live_servers side = filter (lives_in side) (numbers 64)

-- how many commits there are, the live servers, and the state of the synchronous peer
abbrev pub side_view : Side → SideLine
side_view side = record { commits = length side.commits; live = live_servers side; sync = side.link.state }

-- both clusters, the number of flights, and how many records there are
abbrev pub status_seen : ℕ → Machine → StatusLine
status_seen records m = record { a = side_view m.a; b = side_view m.b; flights = length m.flights; records = records }
