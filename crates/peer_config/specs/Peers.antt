-- The peers of a cluster in the order in which they were added, what may be done, and what it changes.
use Rattle.std.specs.Prelude.{ℕ, ◌≡◌, ◌==◌, List, [], ◌∷◌, Bool, false, Option, Some, None, Result, IsOk, Ok, Err, if◌then◌else◌, is_some, find}
use Rattle.std.specs.List.{list_any}
use Rattle.rep_types.specs.declared.state.Kind.{Kind}
use Rattle.rep_types.specs.declared.state.Kind.TheVariants as kind
use Rattle.peer_config.specs.declared.peer.Peer.{Peer}
use Rattle.rep_model.specs.declared.machine.Standing.{Standing}
use Rattle.rep_model.specs.declared.machine.Standing.TheVariants as standing
use Rattle.rep_model.specs.Peers.{is_removed, is_synchronous}
use Rattle.peer_config.specs.declared.error.PeerError.{PeerError}
use Rattle.peer_config.specs.declared.error.PeerError.TheVariants as error

abbrev pub is_peer : ℕ → Peer → Bool
is_peer p x = x.number == p

-- the peer that was ever added under this number
abbrev pub added : ℕ → List Peer → Option Peer
added p xs = find (is_peer p) xs

abbrev unless_removed : Option Peer → Option Peer
unless_removed None = None
unless_removed (Some x) = if is_removed x.standing then None else Some x

-- the peer, if it was added and isn't removed
abbrev pub peer_of : ℕ → List Peer → Option Peer
peer_of p xs = unless_removed (added p xs)

abbrev pub has_synchronous : List Peer → Bool
has_synchronous xs = list_any (λ (x : Peer). is_synchronous x.kind) xs

abbrev pub taken : Kind → List Peer → Bool
taken kind.Plain xs = false
taken kind.Serial xs = false
taken kind.Synchronous xs = has_synchronous xs

-- the number was used; there is a synchronous peer already
abbrev pub add_refusal : ℕ → Kind → List Peer → Option PeerError
add_refusal p kind xs = if is_some (added p xs) then Some error.Exists else (if taken kind xs then Some error.SyncTaken else None)

-- there is no such peer
abbrev pub no_peer : Option Peer → Option PeerError
no_peer None = Some error.NoPeer
no_peer (Some x) = None

-- a synchronous peer isn't removed
abbrev pub remove_bar : Kind → Option PeerError
remove_bar kind.Plain = None
remove_bar kind.Serial = None
remove_bar kind.Synchronous = Some error.IsSync

abbrev pub remove_refusal : Option Peer → Option PeerError
remove_refusal None = Some error.NoPeer
remove_refusal (Some x) = remove_bar x.kind

-- only a plain peer becomes serial
abbrev pub serial_bar : Kind → Option PeerError
serial_bar kind.Plain = None
serial_bar kind.Serial = Some error.IsSerial
serial_bar kind.Synchronous = Some error.IsSync

abbrev pub serial_refusal : Option Peer → Option PeerError
serial_refusal None = Some error.NoPeer
serial_refusal (Some x) = serial_bar x.kind

-- a call answers its refusal, and is done where there is none
abbrev pub Answers : {T : Type 0} → Option PeerError → Result T PeerError → Type 0
Answers None result = IsOk result
Answers (Some e) result = result ≡ Err e

abbrev pub new_peer : ℕ → Kind → List (List ℕ) → Peer
new_peer p kind tables = record { number = p; kind = kind; tables = tables; standing = standing.Enabled }

-- the peer of this number, the first of the list, is so changed
abbrev pub changed : ℕ → (Peer → Peer) → List Peer → List Peer
changed p change [] = []
changed p change (x ∷ xs) = if is_peer p x then change x ∷ xs else x ∷ changed p change xs

abbrev pub stands : Standing → Peer → Peer
stands standing x = record x { standing = standing }

abbrev pub as_serial : Peer → Peer
as_serial x = record x { kind = kind.Serial }

-- the form of an entry, or want of memory
abbrev pub Forms : {X : Type 0} → X → Result X PeerError → Type 0
Forms form (Ok made) = made ≡ form
Forms form (Err e) = e ≡ error.Memory
