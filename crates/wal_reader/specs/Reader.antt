-- What a reader of logs stands for.
use Rattle.std.specs.Prelude.{ℕ, ◌+◌, List, [], ◌++◌, length, drop, Bool, false}
use Rattle.rep_types.specs.declared.state.Place.{Place}

-- The place after the last entry given, the bytes that were fed from there on, and whether it was told that these are bad.
pub record Reader : Type 0 where
  pub place : Place
  pub left : List ℕ
  pub told : Bool

-- nothing was fed yet
abbrev pub starting : ℕ → ℕ → Reader
starting log offset = record { place = record { log = log; offset = offset }; left = []; told = false }

abbrev pub fed : List ℕ → Reader → Reader
fed piece r = record r { left = r.left ++ piece }

-- so many of the bytes left are gone past
abbrev pub past : ℕ → Reader → Reader
past size r = record r { place = record r.place { offset = r.place.offset + size }; left = drop size r.left }

-- the place in the log after the last byte fed
abbrev pub end_of : Reader → ℕ
end_of r = r.place.offset + length r.left
