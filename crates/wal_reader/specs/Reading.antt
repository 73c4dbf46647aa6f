-- What a reader answers, and what it then leaves.
use Rattle.std.specs.Prelude.{◌≡◌, ◌+◌, true, Result, Ok, Err}
use Rattle.rep_types.specs.declared.entry.Entry.{Entry}
use Rattle.rep_types.specs.declared.state.Place.{Place}
use Rattle.wal_entry.specs.Decoded.{BeginsWithFrame}
use Rattle.wal_entry.specs.Judging.{Verdict, Whole, Broken, Cut}
use Rattle.wal_entry.specs.Length.{frame_length_of}
use Rattle.wal_reader.specs.Reader.{Reader, past}
use Rattle.wal_reader.specs.declared.error.ReaderError.{ReaderError}
use Rattle.wal_reader.specs.declared.error.ReaderError.TheVariants.{BadFrame, Memory}
use Rattle.wal_reader.specs.declared.reader.Next.{Next}
use Rattle.wal_reader.specs.declared.reader.Next.TheVariants as next

-- what the bytes from a place on are; the place of a broken item is one in the log
abbrev pub answer : Place → Verdict Entry → Result Next ReaderError
answer place (Whole entry rest) = Ok (next.Entry entry)
answer place (Broken at rule) = Err (BadFrame place.log (place.offset + at) rule)
answer place (Cut until) = Ok next.Short

-- the answer is the one that is due, unless memory ran out
abbrev pub UnlessMemory : Result Next ReaderError → Result Next ReaderError → Type 0
UnlessMemory (Ok got) due = Ok got ≡ due
UnlessMemory (Err (BadFrame log at rule)) due = Err (BadFrame log at rule) ≡ due
UnlessMemory (Err Memory) due = Unit {0}

-- what an answer leaves
abbrev pub after : Result Next ReaderError → Reader → Reader
after (Ok (next.Entry entry)) r = past (frame_length_of entry) r
after (Ok next.Short) r = r
after (Err (BadFrame log at rule)) r = record r { told = true }
after (Err Memory) r = r

-- the bytes left begin with the entry's frame, which is gone past
pub record Gives (old : Reader) (entry : Entry) (new : Reader) : Type 0 where
  pub begins : BeginsWithFrame old.left entry (frame_length_of entry)
  pub past_it : new ≡ past (frame_length_of entry) old

-- a fact of the entry that is given
abbrev pub IfEntry : Result Next ReaderError → (Entry → Type 0) → Type 0
IfEntry (Ok (next.Entry entry)) fact = fact entry
IfEntry (Ok next.Short) fact = Unit {0}
IfEntry (Err e) fact = Unit {0}

-- a fact where the bytes are told to be short or bad
abbrev pub IfEnded : Result Next ReaderError → Type 0 → Type 0
IfEnded (Ok (next.Entry entry)) fact = Unit {0}
IfEnded (Ok next.Short) fact = fact
IfEnded (Err (BadFrame log at rule)) fact = fact
IfEnded (Err Memory) fact = Unit {0}

abbrev pub IsBadFrame : Result Next ReaderError → Type 0
IsBadFrame (Ok got) = ⊥
IsBadFrame (Err (BadFrame log at rule)) = Unit {0}
IsBadFrame (Err Memory) = ⊥
