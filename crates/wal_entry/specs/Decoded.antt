-- What the decoder's answers say of the bytes.
use Rattle.std.specs.Prelude.{ℕ, ◌≡◌, ◌++◌, List, drop, Result, Ok, Err}
use Rattle.rep_types.specs.declared.memory.Memory.{Memory}
use Rattle.rep_types.specs.declared.entry.Entry.{Entry}
use Rattle.wal_entry.specs.declared.decode.Decoded.{Decoded}
use Rattle.wal_entry.specs.declared.decode.Decoded.TheVariants.{Frame, Bad, Short}
use Rattle.wal_entry.specs.Framed.{HasFrame}
use Rattle.wal_entry.specs.Judging.{Place, Verdict, Whole, Broken, IsCut}
use Rattle.wal_entry.specs.Length.{frame_length_of}
use Rattle.wal_entry.specs.Spelling.{spelling}

-- the answer tells what the bytes are; want of memory tells nothing
abbrev pub Answers : Result Decoded Memory → Verdict Entry → Type 0
Answers (Ok (Frame entry length)) v = (p : Place) × (v ≡ Whole entry p) × (p.at ≡ length)
Answers (Ok (Bad at rule)) v = v ≡ Broken at rule
Answers (Ok Short) v = IsCut v
Answers (Err memory) v = Unit {0}

-- the frame that the bytes begin with
abbrev pub IsFrame : Decoded → Verdict Entry → Type 0
IsFrame (Frame entry length) v = (p : Place) × (v ≡ Whole entry p) × (p.at ≡ length)
IsFrame (Bad at rule) v = ⊥
IsFrame Short v = ⊥

-- the bytes begin with the frame of an entry, of so many bytes
pub record BeginsWithFrame (bytes : List ℕ) (entry : Entry) (size : ℕ) : Type 0 where
  pub framed : HasFrame entry
  pub size_is : size ≡ frame_length_of entry
  pub begins : bytes ≡ spelling entry ++ drop size bytes

-- a fact of the entry and the length where the answer is a frame
abbrev pub IfFrame : Result Decoded Memory → (Entry → ℕ → Type 0) → Type 0
IfFrame (Ok (Frame entry size)) fact = fact entry size
IfFrame (Ok (Bad at rule)) fact = Unit {0}
IfFrame (Ok Short) fact = Unit {0}
IfFrame (Err memory) fact = Unit {0}

-- a fact where the bytes end before a frame does
abbrev pub IfShort : Result Decoded Memory → Type 0 → Type 0
IfShort (Ok (Frame entry size)) fact = Unit {0}
IfShort (Ok (Bad at rule)) fact = Unit {0}
IfShort (Ok Short) fact = fact
IfShort (Err memory) fact = Unit {0}

-- a fact where the answer can't change
abbrev pub IfDone : Result Decoded Memory → Type 0 → Type 0
IfDone (Ok (Frame entry size)) fact = fact
IfDone (Ok (Bad at rule)) fact = fact
IfDone (Ok Short) fact = Unit {0}
IfDone (Err memory) fact = Unit {0}
