-- Last pushed ids of peers.
use Rattle.std.specs.Prelude.{ℕ, ◌≡◌, ◌==◌, not, Bool, List, [], ◌∷◌, filter, length, slice_get, IsSome, if◌then◌else◌}
use Rattle.std.specs.List.{AllByRecursion}
use Rattle.std.specs.Option.{unwrap_or}
use Rattle.last_ids.specs.Ids.{seq_of, last_of, IsRising}
use Rattle.last_ids.specs.declared.ids.LastId.{LastId}

-- an id of 0 counts as none
abbrev pub is_counted : LastId → Bool
is_counted x = not (x.seq == 0)

abbrev pub counting : List LastId → List LastId
counting ids = filter is_counted ids

-- the ids of a peer, that of peer 1 first; there is no peer 0
abbrev pub ids_of : ℕ → List (List LastId) → List LastId
ids_of p ids = unwrap_or (slice_get ([] ∷ ids) p) []

-- the last pushed id of a peer's region, 0 where there is none
abbrev pub last_pushed : ℕ → ℕ → List (List LastId) → ℕ
last_pushed p r ids = last_of r (ids_of p ids)

-- what a region's id becomes that was n: the last one given for it
abbrev pub pushed : ℕ → List LastId → ℕ → ℕ
pushed r [] n = n
pushed r (x ∷ xs) n = pushed r xs (if x.region == r then x.seq else n)

-- these ids of a peer are set, and no other
abbrev pub ArePushed : ℕ → List LastId → List (List LastId) → List (List LastId) → Type 0
ArePushed p xs old new = (q r : ℕ) → last_pushed q r new ≡ (if q == p then pushed r xs (last_pushed q r old) else last_pushed q r old)

-- a peer has no id any more, and the others have theirs
abbrev pub AreDropped : ℕ → List (List LastId) → List (List LastId) → Type 0
AreDropped p old new = (q r : ℕ) → last_pushed q r new ≡ (if q == p then 0 else last_pushed q r old)

-- those of four peers, each in the order of regions
pub record AreOfPeers (ids : List (List LastId)) : Type 0 where
  pub four : length ids ≡ 4
  pub rising : AllByRecursion IsRising ids

-- each of these regions has an id, be it 0
abbrev pub AreKnown : List LastId → List LastId → Type 0
AreKnown [] ids = Unit {0}
AreKnown (x ∷ xs) ids = IsSome (seq_of x.region ids) × AreKnown xs ids

-- no region's id is another
abbrev pub StaySame : List LastId → List LastId → Type 0
StaySame old new = (r : ℕ) → last_of r new ≡ last_of r old
