-- What the bytes of one log hold.
use Rattle.std.specs.Prelude.{ℕ, ◌≡◌, ◌+◌, ◌==◌, ◌&&◌, Bool, nat_lt, List, length}
use Rattle.std.specs.List.{flat_map}
use Rattle.rep_types.specs.declared.entry.Entry.{Entry}
use Rattle.wal_entry.specs.Frame.{verdict}
use Rattle.wal_entry.specs.Judging.{Broken, IsCut}
use Rattle.wal_entry.specs.Spelling.{spelling}
use Rattle.wal_reader.specs.Calls.{AreFrames}

-- the entry is of the region, and its sequence id is above that one
abbrev pub is_above : ℕ → ℕ → Entry → Bool
is_above region above entry = (entry.region == region) && nat_lt above entry.seq

-- the frames of these entries, and then nothing or a frame that is cut off
pub record HoldsEntries (bytes : List ℕ) (entries : List Entry) : Type 0 where
  pub rest : List ℕ
  pub frames : AreFrames bytes entries rest
  pub short : IsCut (verdict rest)

-- After whole frames comes an item that is broken, and its first byte is at this place. The first of the bytes is at `from`.
pub record IsBadAt (from : ℕ) (bytes : List ℕ) (at rule : ℕ) : Type 0 where
  pub entries : List Entry
  pub rest : List ℕ
  pub frames : AreFrames bytes entries rest
  pub within : ℕ
  pub broken : verdict rest ≡ Broken within rule
  pub place : at ≡ from + length (flat_map spelling entries) + within
