-- What the calls make of the tables and regions.
use Rattle.std.specs.Prelude.{ℕ, ◌+◌, ◌||◌, max, List, [], ◌∷◌, ◌++◌, Bool, Some, None, if◌then◌else◌, length}
use Rattle.rep_types.specs.declared.table.Family.{Family}
use Rattle.rep_types.specs.declared.state.PlaceOf.{PlaceOf}
use Rattle.rep_types.specs.declared.state.PlaceOf.TheVariants as place
use Rattle.region_meta.specs.declared.region.Region.{Region}
use Rattle.region_meta.specs.Regions.{Map, Table, given, region_of, is_region, is_gone}

-- the first item that passes the test gives way to y
abbrev pub replace : {X : Type 0} → (X → Bool) → X → List X → List X
replace test y [] = []
replace test y (x ∷ xs) = if test x then y ∷ xs else x ∷ replace test y xs

abbrev pub next_number : Map → ℕ
next_number m = length m.regions + 1

-- a table's first region has all keys
abbrev pub first_region : ℕ → List ℕ → Region
first_region number table = record { number = number; table = table; low = None; high = None; parents = []; generation = 0; place = place.Off }

abbrev pub new_table : List ℕ → List Family → Table
new_table name families = record { name = name; families = families }

abbrev pub table_added : List ℕ → List Family → Map → Map
table_added name families m = record { tables = m.tables ++ new_table name families ∷ []; regions = m.regions ++ first_region (next_number m) name ∷ [] }

abbrev pub moved : PlaceOf → Region → Region
moved p r = record r { place = p }

-- what is Gone stays so, and nothing is made Gone
abbrev pub next_place : PlaceOf → PlaceOf → PlaceOf
next_place have next = if is_gone have || is_gone next then have else next

abbrev pub placed : ℕ → PlaceOf → Map → Map
placed n p m = given (region_of n m) m (λ r. record m { regions = replace (is_region n) (moved (next_place r.place p) r) m.regions })

abbrev pub low_half : ℕ → List ℕ → Region → Region
low_half number key r = record { number = number; table = r.table; low = r.low; high = Some key; parents = r.number ∷ []; generation = r.generation + 1; place = place.Off }

abbrev pub high_half : ℕ → List ℕ → Region → Region
high_half number key r = record { number = number; table = r.table; low = Some key; high = r.high; parents = r.number ∷ []; generation = r.generation + 1; place = place.Off }

-- the region is Gone, and its halves are the next two
abbrev pub split_at : ℕ → List ℕ → Map → Map
split_at n key m =
    given (region_of n m) m (λ r. record m {
      regions =
          replace (is_region n) (moved place.Gone r) m.regions
          ++ low_half (next_number m) key r ∷ high_half (next_number m + 1) key r ∷ [];
    })

abbrev pub joined : ℕ → Region → Region → Region
joined number r s = record { number = number; table = r.table; low = r.low; high = s.high; parents = r.number ∷ s.number ∷ []; generation = max r.generation s.generation + 1; place = place.Off }

-- both regions are Gone, and what they make is the next
abbrev pub merged : ℕ → ℕ → Map → Map
merged low high m =
    given (region_of low m) m (λ r. given (region_of high m) m (λ s. record m {
      regions =
          replace (is_region high) (moved place.Gone s) (replace (is_region low) (moved place.Gone r) m.regions)
          ++ joined (next_number m) r s ∷ [];
    }))
