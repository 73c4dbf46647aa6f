-- How the regions of a table that aren't Gone follow one another.
use Rattle.std.specs.Prelude.{◌≡◌, ℕ, ◌+◌, ◌<◌, ◌≤◌, ◌==◌, ◌⊎◌, List, [], ◌∷◌, ◌++◌, Bool, true, false, Option, Some, None, IsSome, if◌then◌else◌, length, map, slice_get, slice_index, position, String, string_bytes}
use Rattle.std.specs.Option.{option_map}
use Rattle.rep_types.specs.Range.{begins_below, is_from}
use Rattle.rep_types.specs.declared.table.Family.{Family}
use Rattle.region_meta.specs.declared.region.Region.{Region}
use Rattle.region_meta.specs.Regions.{Table, is_named, is_gone, given}

-- the tables that names and families stand for
abbrev pub listed : {Y : Type 0} → List (String Y × List Family) → List Table
listed es = map (λ e. record { name = string_bytes e.0; families = e.1 }) es

-- what the order of regions looks at
pub record Shape : Type 0 where
  pub number : ℕ
  pub table : List ℕ
  pub low : Option (List ℕ)
  pub high : Option (List ℕ)
  pub generation : ℕ
  pub gone : Bool

abbrev pub shape : Region → Shape
shape r = record { number = r.number; table = r.table; low = r.low; high = r.high; generation = r.generation; gone = is_gone r.place }

-- where keys are cut: at a low key or none, or, where there is nothing, at the end of all keys
abbrev pub Cut : Type 0
Cut = Option (Option (List ℕ))

abbrev pub end_of : Shape → Cut
end_of s = option_map Some s.high

-- a region of the table that isn't Gone, begins at the cut and holds its low key
pub record IsTile (table : List ℕ) (cut : Cut) (s : Shape) : Type 0 where
  pub table_is : s.table ≡ table
  pub alive : s.gone ≡ false
  pub begins : Some s.low ≡ cut
  pub some : begins_below s.low s.high ≡ true

-- the regions at these places follow one another from cut to cut
abbrev pub Follow : List Shape → List ℕ → Cut → List ℕ → Cut → Type 0
Follow shapes table from [] to = from ≡ to
Follow shapes table from (n ∷ ns) to = (s : Shape) × (slice_get shapes n ≡ Some s) × IsTile table from s × Follow shapes table (end_of s) ns to

abbrev pub IsIn : ℕ → List ℕ → Type 0
IsIn n [] = ⊥
IsIn n (m ∷ ms) = (n ≡ m) ⊎ IsIn n ms

-- the places of the table's regions that aren't Gone, in the order of their keys
pub record IsOrder (shapes : List Shape) (table : List ℕ) (places : List ℕ) : Type 0 where
  pub follow : Follow shapes table (Some None) places None
  pub whole : (n : ℕ) (s : Shape) → slice_get shapes n ≡ Some s → s.table ≡ table → s.gone ≡ false → IsIn n places

-- regions are numbered from 1, each is of a table that is there, and each table has its order
pub record IsKept (tables : List Table) (shapes : List Shape) (orders : List (List ℕ)) : Type 0 where
  pub few : length shapes ≤ 4096
  pub numbered : (n : ℕ) (s : Shape) → slice_get shapes n ≡ Some s → s.number ≡ n + 1
  pub young : (n : ℕ) (s : Shape) → slice_get shapes n ≡ Some s → s.generation ≤ n
  pub known : (n : ℕ) (s : Shape) → slice_get shapes n ≡ Some s → IsSome (position (is_named s.table) tables)
  pub paired : length orders ≡ length tables
  pub ordered : (table : List ℕ) (t : ℕ) (places : List ℕ) → position (is_named table) tables ≡ Some t → slice_get orders t ≡ Some places → IsOrder shapes table places

-- the first item that passes the test gives way to others
abbrev pub spliced : {X : Type 0} → (X → Bool) → List X → List X → List X
spliced test ys [] = []
spliced test ys (x ∷ xs) = if test x then ys ++ xs else x ∷ spliced test ys xs

abbrev pub is_place : ℕ → ℕ → Bool
is_place place n = n == place

-- the halves, at a place and the next, instead of their parent
abbrev pub put_halves : ℕ → ℕ → List ℕ → List ℕ
put_halves parent half ns = spliced (is_place parent) (half ∷ (half + 1) ∷ []) ns

-- another instead of one
abbrev pub put_other : ℕ → ℕ → List ℕ → List ℕ
put_other one other ns = spliced (is_place one) (other ∷ []) ns

-- all but one
abbrev pub leave_out : ℕ → List ℕ → List ℕ
leave_out one ns = spliced (is_place one) [] ns

-- the region at the place begins at the row or before it
abbrev pub begins_by : List Region → List ℕ → ℕ → Bool
begins_by regions row n = given (slice_get regions n) false (λ r. is_from r.low row)

-- among these places, the one at k is of the last region that begins at the row or before it; the first is taken to do so
pub record IsLastAt (regions : List Region) (row : List ℕ) (places : List ℕ) (k : ℕ) : Type 0 where
  pub within : k < length places
  pub begins : (k ≡ 0) ⊎ (begins_by regions row (slice_index places k) ≡ true)
  pub next : k + 1 < length places → begins_by regions row (slice_index places (k + 1)) ≡ false

-- the number of the region at the place that is last so
pub record IsHolder (regions : List Region) (row : List ℕ) (places : List ℕ) (number : Option ℕ) : Type 0 where
  pub k : ℕ
  pub last : IsLastAt regions row places k
  pub number_is : number ≡ option_map (λ r. r.number) (slice_get regions (slice_index places k))
