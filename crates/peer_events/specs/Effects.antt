-- What events of peers leave of memory.
use Rattle.std.specs.Prelude.{ℕ, ◌||◌, not, Bool, List, [], ◌∷◌, ◌++◌, length, find, None, if◌then◌else◌}
use Rattle.rep_types.specs.declared.state.Kind.TheVariants as kind
use Rattle.rep_types.specs.declared.state.QueueForm.{QueueForm}
use Rattle.rep_model.specs.FormEvents.{made_form}
use Rattle.rep_model.specs.Keyed.{if_some}
use Rattle.rep_model.specs.declared.machine.Standing.TheVariants as standing
use Rattle.cluster_core.specs.declared.parts.ClusterCore.{ClusterCore}
use Rattle.cluster_core.specs.declared.parts.Line.{Line}
use Rattle.cluster_core.specs.declared.parts.PeerLine.{PeerLine}
use Rattle.cluster_core.specs.declared.parts.Shelf.{Shelf}
use Rattle.cluster_core.specs.declared.parts.Station.{Station}
use Rattle.cluster_core.specs.Stands.{is_station}

-- the server lives or isn't sealed
abbrev pub takes_queues : ℕ → List Station → Bool
takes_queues s stations = if_some (find (is_station s) stations) (λ st. st.live || not st.sealed)

-- a new queue, behind all commits of its server
abbrev pub new_line : QueueForm → ℕ → Shelf → Line
new_line form p x = record { peer = p; server = x.server; owner = x.server; form = form; flight = None; at = length x.kept }

-- a queue for each server that takes one, in the order of the shelves
abbrev pub new_lines : QueueForm → ℕ → List Station → List Shelf → List Line
new_lines form p stations [] = []
new_lines form p stations (x ∷ xs) =
    if takes_queues x.server stations then new_line form p x ∷ new_lines form p stations xs else new_lines form p stations xs

-- a peer that is enabled and keeps no order
abbrev pub new_peer_line : ℕ → List (List ℕ) → PeerLine
new_peer_line p tables = record { number = p; kind = kind.Plain; tables = tables; standing = standing.Enabled }

-- the peer and its queues stand behind the others
abbrev pub with_added : ℕ → List (List ℕ) → ClusterCore → ClusterCore
with_added p tables core = record core {
  peers = core.peers ++ new_peer_line p tables ∷ [];
  lines = core.lines ++ new_lines (made_form core.forms) p core.stations core.index.shelves;
}
