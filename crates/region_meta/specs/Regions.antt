-- Tables and regions in order of creation, where regions are, and which region holds a row.
use Rattle.std.specs.Prelude.{ℕ, ◌==◌, ◌&&◌, not, List, Bool, true, false, Option, Some, None, find}
use Rattle.std.specs.Str.{bytes_eq}
use Rattle.rep_types.specs.Range.{is_from, is_below}
use Rattle.rep_types.specs.declared.table.Family.{Family}
use Rattle.rep_types.specs.declared.state.PlaceOf.{PlaceOf}
use Rattle.rep_types.specs.declared.state.PlaceOf.TheVariants as place
use Rattle.region_meta.specs.declared.region.Region.{Region}

-- what is said where there is nothing, and of what there is
unfoldable pub given : {X Y : Type 0} → Option X → Y → (X → Y) → Y
given None none some = none
given (Some x) none some = some x

-- a test of what there is; where there is nothing, it fails
abbrev pub if_some : {X : Type 0} → Option X → (X → Bool) → Bool
if_some o test = given o false test

pub record Table : Type 0 where
  pub name : List ℕ
  pub families : List Family

pub record Map : Type 0 where
  pub tables : List Table
  pub regions : List Region

abbrev pub is_named : List ℕ → Table → Bool
is_named name t = bytes_eq t.name name

abbrev pub table_of : List ℕ → Map → Option Table
table_of name m = find (is_named name) m.tables

abbrev pub is_region : ℕ → Region → Bool
is_region n r = r.number == n

abbrev pub region_of : ℕ → Map → Option Region
region_of n m = find (is_region n) m.regions

abbrev pub is_off : PlaceOf → Bool
is_off place.Off = true
is_off (place.Opening s) = false
is_off (place.On s) = false
is_off (place.Closing s) = false
is_off (place.Lost s) = false
is_off place.Gone = false

abbrev pub is_gone : PlaceOf → Bool
is_gone place.Off = false
is_gone (place.Opening s) = false
is_gone (place.On s) = false
is_gone (place.Closing s) = false
is_gone (place.Lost s) = false
is_gone place.Gone = true

-- the region's place; Gone where it isn't there
abbrev pub place_of : ℕ → Map → PlaceOf
place_of n m = given (region_of n m) place.Gone (λ r. r.place)

-- the region is of the table of this name and holds the row
abbrev pub holds : List ℕ → List ℕ → Region → Bool
holds table row r = bytes_eq r.table table && (is_from r.low row && is_below row r.high)

-- the region holds the row and isn't Gone
abbrev pub serves : List ℕ → List ℕ → Region → Bool
serves table row r = holds table row r && not (is_gone r.place)
