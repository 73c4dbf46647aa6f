-- What a batch takes of a queue.
use Rattle.std.specs.Prelude.{ℕ, ◌≡◌, ◌≤◌, ◌<◌, ◌==◌, List, [], ◌∷◌, Bool, true, false, Some, length, max, take, sum_by, slice_get, if◌then◌else◌}
use Rattle.last_ids.specs.Ids.{last_of}
use Rattle.last_ids.specs.declared.ids.LastId.{LastId}
use Rattle.region_barriers.specs.History.{History}
use Rattle.rep_types.specs.declared.entry.Entry.{Entry}
use Rattle.rep_types.specs.declared.ids.Cluster.{Cluster}
use Rattle.serial_gate.specs.Gate.{gate}
use Rattle.serial_gate.specs.declared.gate.Admission.{Admission}
use Rattle.serial_gate.specs.declared.gate.Admission.TheVariants.{Go, Held}
use Rattle.wal_entry.specs.Length.{frame_length_of}
use Rattle.shipper.specs.declared.forming.Formed.{Formed}
use Rattle.shipper.specs.declared.forming.Formed.TheVariants as formed

-- the greatest sequence id of a region in a batch, and 0 where it has none
abbrev pub greatest : ℕ → List Entry → ℕ
greatest region [] = 0
greatest region (e ∷ es) = if e.region == region then max e.seq (greatest region es) else greatest region es

-- these ids are the greatest in a batch
abbrev pub Reaches : List LastId → List Entry → Type 0
Reaches so_far batch = (region : ℕ) → last_of region so_far ≡ greatest region batch

-- how far regions have come behind a batch: to the last pushed id, or to the greatest in the batch
abbrev pub come : List LastId → List Entry → ℕ → ℕ
come last batch region = max (last_of region last) (greatest region batch)

-- a serial peer asks the gate; the others admit every entry
abbrev pub admission : Bool → Cluster → List History → (ℕ → ℕ) → Entry → Admission
admission serial cluster barriers come entry = if serial then gate cluster barriers come entry else Go

abbrev pub is_go : Admission → Bool
is_go Go = true
is_go (Held need) = false

-- what is answered for an entry behind a batch
abbrev pub Gate : Type 0
Gate = List Entry → Entry → Admission

-- the gate of a peer with these barriers and last pushed ids
abbrev pub gate_of : Bool → Cluster → List History → List LastId → Gate
gate_of serial cluster barriers last batch entry = admission serial cluster barriers (come last batch) entry

-- The first n entries of a queue are a batch: they are few, their frames are short, and each is admitted behind those before it.
pub record IsBatch (gate : Gate) (most : ℕ) (queue : List Entry) (n : ℕ) : Type 0 where
  pub within : n ≤ length queue
  pub few : n ≤ most
  pub short : sum_by frame_length_of (take n queue) ≤ 65536
  pub admitted : (k : ℕ) (e : Entry) → k < n → slice_get queue k ≡ Some e → gate (take k queue) e ≡ Go

-- no more of them are
pub record IsLongest (gate : Gate) (most : ℕ) (queue : List Entry) (n : ℕ) : Type 0 where
  pub batch : IsBatch gate most queue n
  pub longest : (m : ℕ) → IsBatch gate most queue m → m ≤ n

-- the gate answers this for the first entry of a queue
abbrev pub AnswersFirst : Gate → Admission → List Entry → Type 0
AnswersFirst gate answer [] = ⊥
AnswersFirst gate answer (e ∷ es) = gate [] e ≡ answer

-- some entries, no more than the longest batch has; none of an empty queue; or the first entry waits
abbrev pub Forms : Gate → ℕ → List Entry → Formed → Type 0
Forms gate most queue (formed.Batch entries) = (1 ≤ entries) × IsLongest gate most queue entries
Forms gate most queue formed.Empty = queue ≡ []
Forms gate most queue (formed.Held need) = AnswersFirst gate (Held need) queue
