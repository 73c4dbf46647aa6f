-- Calls of a reader in one log, in any order, and what they give.
use Rattle.std.specs.Prelude.{ℕ, ◌≡◌, List, [], ◌∷◌, ◌++◌, All}
use Rattle.std.specs.List.{flat_map}
use Rattle.rep_types.specs.declared.entry.Entry.{Entry}
use Rattle.wal_entry.specs.Frame.{verdict}
use Rattle.wal_entry.specs.Framed.{HasFrame}
use Rattle.wal_entry.specs.Judging.{Verdict, Whole, Broken, Cut}
use Rattle.wal_entry.specs.Spelling.{spelling}
use Rattle.wal_reader.specs.Reader.{Reader, fed}
use Rattle.wal_reader.specs.Reading.{Gives}

-- a piece was fed, or an entry was given; other answers leave the bytes and the place
pub data Call : Type 0 where
  Fed : List ℕ → Call
  Gave : Entry → Call

abbrev pub Called : Reader → Call → Reader → Type 0
Called old (Fed piece) new = new ≡ fed piece old
Called old (Gave entry) new = Gives old entry new

-- the calls one after another
abbrev pub Calls : Reader → List Call → Reader → Type 0
Calls old [] new = new ≡ old
Calls old (call ∷ calls) new = (next : Reader) × Called old call next × Calls next calls new

-- all the bytes that were fed
abbrev pub pieces : List Call → List ℕ
pieces [] = []
pieces (Fed piece ∷ calls) = piece ++ pieces calls
pieces (Gave entry ∷ calls) = pieces calls

-- all the entries that were given
abbrev pub given : List Call → List Entry
given [] = []
given (Fed piece ∷ calls) = given calls
given (Gave entry ∷ calls) = entry ∷ given calls

-- the bytes are the frames of these entries, and then the rest
pub record AreFrames (bytes : List ℕ) (entries : List Entry) (rest : List ℕ) : Type 0 where
  pub framed : All HasFrame entries
  pub whole : bytes ≡ flat_map spelling entries ++ rest

abbrev pub IsNoFrame : Verdict Entry → Type 0
IsNoFrame (Whole entry place) = ⊥
IsNoFrame (Broken at rule) = Unit {0}
IsNoFrame (Cut until) = Unit {0}

-- no frame begins the bytes: they are short or bad
abbrev pub EndsFrames : List ℕ → Type 0
EndsFrames bytes = IsNoFrame (verdict bytes)
