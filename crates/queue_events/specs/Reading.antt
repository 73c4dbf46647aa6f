-- Entries of a batch as the files of logs have them, and what reading them tells.
use Rattle.std.specs.Prelude.{ℕ, ◌+◌, ◌-◌, ◌≤◌, ◌≡◌, List, [], ◌∷◌, Some, Result, Ok, Err}
use Rattle.rep_types.specs.declared.state.Call.{Call}
use Rattle.rep_types.specs.declared.state.Call.TheVariants as call
use Rattle.rep_types.specs.declared.entry.Entry.{Entry}
use Rattle.rep_vault.specs.Contents.{File, Contents}
use Rattle.rep_vault.specs.Calls.{part}
use Rattle.rep_vault.specs.Tallies.{Tally}
use Rattle.wal_entry.specs.Framed.{HasFrame}
use Rattle.wal_entry.specs.Spelling.{spelling}
use Rattle.wal_roll.specs.Log.{wal, log_name}
use Rattle.wal_roll.specs.Blamed.{IsFault}
use Rattle.cluster_core.specs.declared.parts.Kept.{Kept}
use Rattle.queue_events.specs.declared.reading.Piece.{Piece}
use Rattle.queue_events.specs.declared.reading.ReadError.{ReadError}
use Rattle.queue_events.specs.declared.reading.ReadError.TheVariants.{StoreFault, Memory}

-- at its place in the file of its log stands the entry's frame
pub record IsFrameAt (c : Contents) (s : ℕ) (k : Kept) (e : Entry) : Type 0 where
  pub file : File
  pub there : c.files wal (log_name s k.log) ≡ Some file
  pub framed : HasFrame e
  pub bytes : part k.offset k.length file ≡ spelling e

abbrev pub HasFrameAt : Contents → ℕ → Kept → Type 0
HasFrameAt c s k = (e : Entry) × IsFrameAt c s k e

-- the entries that stand at these places, in order
abbrev pub AreFramesAt : Contents → ℕ → List Kept → List Entry → Type 0
AreFramesAt c s [] [] = Unit {0}
AreFramesAt c s [] (e ∷ es) = ⊥
AreFramesAt c s (k ∷ ks) [] = ⊥
AreFramesAt c s (k ∷ ks) (e ∷ es) = IsFrameAt c s k e × AreFramesAt c s ks es

-- the entry's frame is the next of the piece, which has all of it
pub record IsNext (p : Piece) (k : Kept) : Type 0 where
  pub log_is : k.log ≡ p.reader.place.log
  pub offset_is : k.offset ≡ p.reader.place.offset
  pub whole : k.offset + k.length ≤ p.end

-- where the file stands, the bytes left are its bytes from the reader's place to the end
abbrev pub IsPiece : Contents → ℕ → Piece → Type 0
IsPiece c s p =
    let from : ℕ = p.reader.place.offset in
    (file : File) → c.files wal (log_name s p.reader.place.log) ≡ Some file → p.reader.left ≡ part from (p.end - from) file

-- a fact of the fault that is told
abbrev pub IfFault : {T : Type 0} → Result T ReadError → (ℕ → Type 0) → Type 0
IfFault (Ok x) fact = Unit {0}
IfFault (Err (StoreFault count)) fact = fact count
IfFault (Err Memory) fact = Unit {0}

-- no count of faults falls, a told fault was counted, and nothing is planned
pub record ReadTells {T : Type 0} (old new : Tally) (result : Result T ReadError) : Type 0 where
  pub kept : (k : Call) → old.faults k ≤ new.faults k
  pub fault : IfFault result (λ n. IsFault call.Read n old new)
  pub planned : new.planned ≡ old.planned
