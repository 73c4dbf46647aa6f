-- Sequence ids by region.
use Rattle.std.specs.Prelude.{ℕ, ◌≡◌, ◌==◌, List, [], ◌∷◌, Option, Some, None, if◌then◌else◌}
use Rattle.std.specs.Option.{unwrap_or}
use Rattle.std.specs.Ordering.{nat_cmp, match_ordering}
use Rattle.std.specs.declared.cmp.Ordering.TheVariants.{Less}
use Rattle.last_ids.specs.declared.ids.LastId.{LastId}

-- the region's id, if it has one
abbrev pub seq_of : ℕ → List LastId → Option ℕ
seq_of r [] = None
seq_of r (x ∷ xs) = if x.region == r then Some x.seq else seq_of r xs

-- the region's id, and 0 where it has none
abbrev pub last_of : ℕ → List LastId → ℕ
last_of r ids = unwrap_or (seq_of r ids) 0

-- a region's new id, in the place of its old one or of its number
abbrev pub put : LastId → List LastId → List LastId
put n [] = n ∷ []
put n (x ∷ xs) = match_ordering (nat_cmp n.region x.region) (n ∷ x ∷ xs) (n ∷ xs) (x ∷ put n xs)

-- the region's number is below all of these
abbrev pub IsBelow : ℕ → List LastId → Type 0
IsBelow r [] = Unit {0}
IsBelow r (x ∷ xs) = (nat_cmp r x.region ≡ Less) × IsBelow r xs

-- in the order of regions, each once
abbrev pub IsRising : List LastId → Type 0
IsRising [] = Unit {0}
IsRising (x ∷ xs) = IsBelow x.region xs × IsRising xs
