-- The barriers of regions, which are numbered from 1 without gaps.
use Rattle.std.specs.Prelude.{ℕ, ◌-◌, List, [], ◌∷◌, ◌++◌, Option, length, nat_le, if◌then◌else◌, slice_get, slice_set}
use Rattle.region_barriers.specs.History.{History}

abbrev pub barriers_of : ℕ → List History → Option History
barriers_of region map = slice_get map (region - 1)

-- a known region's barriers are others, or one more region is known
abbrev pub with_barriers : ℕ → History → List History → List History
with_barriers region barriers map = if nat_le region (length map) then slice_set map (region - 1) barriers else map ++ barriers ∷ []
