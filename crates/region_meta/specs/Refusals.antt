-- Why a call changes nothing: the first test that holds, in this order.
use Rattle.std.specs.Prelude.{ℕ, ◌+◌, ◌&&◌, not, nat_lt, List, [], ◌∷◌, Bool, true, false, Option, Some, None, if◌then◌else◌, is_some, is_none, length, codes}
use Rattle.std.specs.Str.{bytes_eq}
use Rattle.rep_types.specs.Range.{key_below, is_below}
use Rattle.region_meta.specs.declared.region.Region.{Region}
use Rattle.region_meta.specs.declared.error.MetaError.{MetaError}
use Rattle.region_meta.specs.declared.error.MetaError.TheVariants as error
use Rattle.region_meta.specs.Regions.{Map, if_some, table_of, region_of, place_of, is_off}

abbrev pub first : List (Bool × MetaError) → Option MetaError
first [] = None
first (r ∷ rs) = if r.0 then Some r.1 else first rs

-- so many more regions would pass 4,096
abbrev pub too_many : ℕ → Map → Bool
too_many more m = nat_lt 4096 (length m.regions + more)

abbrev pub table_refusal : List ℕ → Map → Option MetaError
table_refusal name m = first ((is_some (table_of name m), error.Exists) ∷ (too_many 1 m, error.TooMany 4096) ∷ [])

abbrev pub low_below : Option (List ℕ) → List ℕ → Bool
low_below None key = true
low_below (Some low) key = key_below low key

-- the key is held, isn't the low key, and isn't `.`, below which no key stands
abbrev pub splits : List ℕ → Region → Bool
splits key r = not (bytes_eq key (codes ".")) && (low_below r.low key && is_below key r.high)

abbrev pub split_refusal : ℕ → List ℕ → Bool → Map → Option MetaError
split_refusal n key closed m = first (
    (is_none (region_of n m), error.NoRegion)
    ∷ (not (is_off (place_of n m)), error.WrongPlace (place_of n m))
    ∷ (not closed, error.NotClosed)
    ∷ (not (if_some (region_of n m) (splits key)), error.BadKey)
    ∷ (too_many 2 m, error.TooMany 4096)
    ∷ [])

abbrev pub same_key : Option (List ℕ) → Option (List ℕ) → Bool
same_key (Some a) (Some b) = bytes_eq a b
same_key _ _ = false

-- they are of one table, and the first's high key is the second's low key
abbrev pub is_adjacent : Region → Region → Bool
is_adjacent r s = bytes_eq r.table s.table && same_key r.high s.low

-- each is tried for both regions, in the order written, before the next one
abbrev pub merge_refusal : ℕ → ℕ → Bool → Map → Option MetaError
merge_refusal low high closed m = first (
    (is_none (region_of low m), error.NoRegion)
    ∷ (is_none (region_of high m), error.NoRegion)
    ∷ (not (is_off (place_of low m)), error.WrongPlace (place_of low m))
    ∷ (not (is_off (place_of high m)), error.WrongPlace (place_of high m))
    ∷ (not closed, error.NotClosed)
    ∷ (not (if_some (region_of low m) (λ r. if_some (region_of high m) (is_adjacent r))), error.NotAdjacent)
    ∷ (too_many 1 m, error.TooMany 4096)
    ∷ [])
