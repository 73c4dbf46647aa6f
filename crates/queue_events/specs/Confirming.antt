-- When a flight may be recorded, and what is left once it is.
use Rattle.std.specs.Prelude.{ℕ, ◌≡◌, true, find, Option, Some}
use Rattle.rep_model.specs.Keyed.{given, replace}
use Rattle.rep_model.specs.QueueEvents.{lives as lives_in}
use Rattle.rep_model.specs.Peers.{peer_of}
use Rattle.rep_model.specs.State.{Route, flight_of}
use Rattle.rep_model.specs.declared.machine.Flight.{Flight}
use Rattle.rep_model.specs.declared.machine.Machine.{Machine}
use Rattle.rep_model.specs.declared.machine.Peer.{Peer}
use Rattle.cluster_core.specs.declared.parts.ClusterCore.{ClusterCore}
use Rattle.cluster_core.specs.declared.parts.Line.{Line}
use Rattle.cluster_core.specs.declared.parts.Sent.{Sent}
use Rattle.cluster_core.specs.Does.{sent_of}
use Rattle.cluster_core.specs.Lookups.{is_line}
use Rattle.cluster_core.specs.Lines.{shelf_length, lands}

-- the queue has no flight, and its head stands behind these entries
abbrev pub landed : Sent → ClusterCore → ClusterCore
landed f core = record core {
  lines = given (find (is_line f.peer f.server) core.lines) core.lines (λ l.
      replace (is_line f.peer f.server) (lands f.entries (shelf_length f.server core.index.shelves) l) core.lines);
}

-- the flight is known, it was delivered, its peer isn't removed, and it is the outstanding one of its queue, whose owner lives
pub record MayConfirm (way : Route) (core : ClusterCore) (k : ℕ) (m : Machine) (sent : Sent) : Type 0 where
  pub flight : Flight
  pub there : flight_of k m ≡ Some flight
  pub sent_is : sent ≡ sent_of way flight
  pub peer : Peer
  pub known : peer_of flight.cluster flight.peer m ≡ Some peer
  pub line : Line
  pub found : find (is_line flight.peer flight.server) core.lines ≡ Some line
  pub out : line.flight ≡ Some k
  pub lives : lives_in flight.cluster line.owner m ≡ true
  pub delivered : flight.delivered ≡ true
