-- What events of servers and peers leave of memory.
use Rattle.std.specs.Prelude.{ℕ, true, false, List, [], ◌∷◌, ◌++◌, None, if◌then◌else◌}
use Rattle.region_server.specs.Host.{HostValue}
use Rattle.rep_types.specs.declared.state.QueueForm.{QueueForm}
use Rattle.rep_model.specs.FormEvents.{made_form}
use Rattle.rep_model.specs.Peers.{is_removed}
use Rattle.cluster_core.specs.declared.parts.Line.{Line}
use Rattle.cluster_core.specs.declared.parts.PeerLine.{PeerLine}
use Rattle.cluster_core.specs.declared.parts.Shelf.{Shelf}
use Rattle.cluster_core.specs.declared.parts.Station.{Station}
use Rattle.cluster_core.specs.declared.parts.ClusterCore.{ClusterCore}

-- a queue of a new server, whose record has this form
abbrev pub new_line : QueueForm → ℕ → ℕ → Line
new_line form p s = record { peer = p; server = s; owner = s; form = form; flight = None; at = 0 }

-- one for each peer that isn't removed
abbrev pub server_lines : QueueForm → ℕ → List PeerLine → List Line
server_lines form s [] = []
server_lines form s (p ∷ ps) = if is_removed p.standing then server_lines form s ps else new_line form p.number s ∷ server_lines form s ps

abbrev pub new_shelf : ℕ → Shelf
new_shelf s = record { server = s; kept = [] }

abbrev pub new_station : HostValue → Station
new_station h = record { live = true; sealed = false; host = h }

-- the server stands behind the others
abbrev pub with_server : ℕ → HostValue → ClusterCore → ClusterCore
with_server s h core = record core {
  index = record core.index { shelves = core.index.shelves ++ new_shelf s ∷ [] };
  stations = core.stations ++ new_station h ∷ [];
  lines = core.lines ++ server_lines (made_form core.forms) s core.peers;
}
