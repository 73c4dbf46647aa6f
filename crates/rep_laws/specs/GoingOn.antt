-- What queues have to send, and that one of a peer's queues always goes on.
use Rattle.std.specs.Prelude.{ℕ, ◌≤◌, ◌≡◌, not, true, false, List, [], ◌∷◌, Option, Some, is_some, find, drop}
use Rattle.std.specs.List.{AllByRecursion}
use Rattle.wal_entry.specs.Length.{frame_length}
use Rattle.rep_types.specs.declared.ids.Cluster.{Cluster}
use Rattle.rep_types.specs.declared.state.Kind.TheVariants.{Serial}
use Rattle.rep_model.specs.State.{of, queue_of}
use Rattle.rep_model.specs.Commits.{stands_in}
use Rattle.rep_model.specs.Peers.{is_removed}
use Rattle.rep_model.specs.Queues.{queue, batch, is_admitted}
use Rattle.rep_model.specs.QueueEvents.{is_empty}
use Rattle.rep_model.specs.declared.machine.Machine.{Machine}
use Rattle.rep_model.specs.declared.machine.Commit.{Commit}
use Rattle.rep_model.specs.declared.machine.Peer.{Peer}
use Rattle.rep_model.specs.declared.machine.Pending.{Pending}
use Rattle.rep_model.specs.declared.machine.Queue.{Queue}
use Rattle.rep_model.specs.declared.machine.Server.{Server}

-- the earliest commit after the peer's start that isn't recorded
abbrev pub earliest : Peer → List Commit → Option Commit
earliest p commits = find (λ (x : Commit). not (stands_in p.recorded x)) (drop p.start commits)

-- the commit is at the head of its server's queue, and is admitted there
pub record IsHead (p : Peer) (commits : List Commit) (x : Commit) : Type 0 where
  pub rest : List Commit
  pub head : queue p x.server commits ≡ x ∷ rest
  pub admitted : is_admitted p.kind p commits [] x ≡ true

-- one of the peer's queues stands whose batches aren't empty: a send from it is never held
pub record GoesOn (c : Cluster) (m : Machine) (p : Peer) : Type 0 where
  pub server : ℕ
  pub queue : Queue
  pub found : queue_of c p.number server m ≡ Some queue
  pub sends : (n : ℕ) → 1 ≤ n → is_empty (batch p server n (of c m).commits) ≡ false

-- of a region's commits after the peer's serial start those that are recorded have the lowest sequence ids
abbrev pub AreLowest : List Commit → Peer → Type 0
AreLowest commits p =
    AllByRecursion (λ (x : Commit). AllByRecursion (λ (y : Commit). x.region.number ≡ y.region.number → x.seq ≤ y.seq → stands_in p.recorded y ≡ true → stands_in p.recorded x ≡ true) (drop p.serial_start commits)) (drop p.serial_start commits)

-- what holds of each peer of a cluster

-- its earliest commit is at the head of a queue
abbrev pub HeadsFirst : List Commit → Peer → Type 0
HeadsFirst commits p = (x : Commit) → earliest p commits ≡ Some x → IsHead p commits x

-- what it has to send of a server is in a queue that stands
abbrev pub HasQueues : Cluster → Machine → Peer → Type 0
HasQueues c m p = is_removed p.standing ≡ false → (s : ℕ) → is_empty (queue p s (of c m).commits) ≡ false → is_some (queue_of c p.number s m) ≡ true

-- where it has anything to send, one of its queues goes on
abbrev pub AlwaysGoesOn : Cluster → Machine → Peer → Type 0
AlwaysGoesOn c m p = is_removed p.standing ≡ false → (s : ℕ) → is_empty (queue p s (of c m).commits) ≡ false → GoesOn c m p

abbrev pub RecordsLowest : List Commit → Peer → Type 0
RecordsLowest commits p = p.kind ≡ Serial → AreLowest commits p

-- a frame fits into a log
abbrev pub CommitFits : Commit → Type 0
CommitFits x = frame_length x.kind ≤ 65536

abbrev pub PendingFits : Server → Type 0
PendingFits v = AllByRecursion (λ (x : Pending). frame_length x.kind ≤ 65536) v.pending
