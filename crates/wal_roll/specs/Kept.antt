-- What a seal keeps of a log.
use Rattle.std.specs.Prelude.{ℕ, ◌+◌, ◌-◌, ◌<◌, ◌≤◌, ◌≡◌, nat_le, true, List, [], ◌∷◌, ◌++◌, length, take, drop, Option, Some, if◌then◌else◌, Result, Ok, Err}
use Rattle.rep_types.specs.declared.state.Call.TheVariants as call
use Rattle.rep_types.specs.declared.entry.Entry.{Entry}
use Rattle.wal_entry.specs.Spelling.{spelling}
use Rattle.rep_vault.specs.Contents.{File, Contents}
use Rattle.wal_roll.specs.declared.error.LogError.{LogError}
use Rattle.wal_roll.specs.declared.error.LogError.TheVariants.{Broken, NeedRoll, StoreFault, Memory}
use Rattle.wal_roll.specs.Log.{Log, LogValue, writer_of, wal, log_name, frames, frame_size}

-- how many pieces of these lengths stand whole in so many bytes
abbrev pub whole : ℕ → List ℕ → ℕ
whole n [] = 0
whole n (l ∷ ls) = if nat_le l n then 1 + whole (n - l) ls else 0

-- a proper prefix of the next frame, or nothing where there is none
abbrev pub IsPart : List ℕ → List Entry → Type 0
IsPart part [] = part ≡ []
IsPart part (e ∷ es) = (j : ℕ) × (j < frame_size e) × (part ≡ take j (spelling e))

-- the file is sealed, and its whole frames are those of the committed and of the first n pending entries
pub record IsSealed (o : Option File) (log : Log) (n : ℕ) : Type 0 where
  pub file : File
  pub there : o ≡ Some file
  pub sealed : file.sealed ≡ true
  pub few : n ≤ length log.pending
  pub part : List ℕ
  pub bytes : file.bytes ≡ frames (log.committed ++ take n log.pending) ++ part
  pub cut : IsPart part (drop n log.pending)

-- the kept entries are committed, and the others are gone
abbrev pub kept_log : ℕ → Log → Log
kept_log n log = record log { committed = log.committed ++ take n log.pending; pending = [] }

abbrev pub Sealed : Log → LogValue → Contents → LogValue → Contents → Result ℕ LogError → Type 0
Sealed log w old w' new (Ok n) = (w' ≡ writer_of (kept_log n log)) × IsSealed (new.files wal (log_name log.server log.number)) log n
Sealed log w old w' new (Err Broken) = ⊥
Sealed log w old w' new (Err (NeedRoll used need limit)) = ⊥
Sealed log w old w' new (Err (StoreFault kind count)) = (kind ≡ call.Seal) × (w' ≡ w) × (new ≡ old)
Sealed log w old w' new (Err Memory) = (w' ≡ w) × (new ≡ old)
