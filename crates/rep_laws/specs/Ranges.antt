-- What regions hold: the keys of their ranges, and what their parents held.
use Rattle.std.specs.Prelude.{ℕ, ◌≡◌, true, List, [], ◌∷◌, Option, Some, None, find, codes, ◌⊎◌}
use Rattle.std.specs.List.{AllByRecursion}
use Rattle.rep_types.specs.Text.{key_refusal}
use Rattle.rep_types.specs.Range.{begins_below}
use Rattle.rep_types.specs.declared.entry.EntryKind.TheVariants as kind
use Rattle.rep_types.specs.declared.state.PlaceOf.TheVariants as place
use Rattle.rep_model.specs.State.{is_region}
use Rattle.rep_model.specs.Regions.{holds, overlap}
use Rattle.rep_model.specs.Commits.{commit_count}
use Rattle.rep_model.specs.Queues.{last_of}
use Rattle.rep_model.specs.declared.machine.Commit.{Commit}
use Rattle.rep_model.specs.declared.machine.Hosted.{Hosted}
use Rattle.rep_model.specs.declared.machine.Region.{Region}

-- the text is a key, as a program's type of keys has it
abbrev pub IsKey : List ℕ → Type 0
IsKey key = key_refusal key ≡ None

abbrev pub IsBound : Option (List ℕ) → Type 0
IsBound None = Unit {0}
IsBound (Some key) = IsKey key

-- what bounds a region are keys: in the machine a key may be any text, and the types of events see to it
pub record IsBounded (r : Region) : Type 0 where
  pub low : IsBound r.low
  pub high : IsBound r.high

-- the lowest key from a low one on; `.` is the least of all
abbrev pub first_key : Option (List ℕ) → List ℕ
first_key None = codes "."
first_key (Some low) = low

-- a key that both regions hold
pub record Meet (r s : Region) : Type 0 where
  pub key : List ℕ
  pub is : IsKey key
  pub first : holds r.table.name key r ≡ true
  pub second : holds r.table.name key s ≡ true

-- one of the regions of these numbers is so
abbrev pub OneOf : (Region → Type 0) → List Hosted → List ℕ → Type 0
OneOf P regions [] = ⊥
OneOf P regions (n ∷ ns) = ((h : Hosted) × (find (is_region n) regions ≡ Some h) × P h.region) ⊎ OneOf P regions ns

-- each row of the region was a row of a parent, and what overlaps the region overlaps a parent
pub record ComesFrom (regions : List Hosted) (r : Region) : Type 0 where
  pub rows : (table row : List ℕ) → holds table row r ≡ true → OneOf (λ (p : Region). holds table row p ≡ true) regions r.parents
  pub overlaps : (q : Region) → begins_below q.low q.high ≡ true → overlap q r ≡ true → OneOf (λ (p : Region). overlap q p ≡ true) regions r.parents

-- the region's last commit is a close marker
pub record EndsClosed (h : Hosted) (commits : List Commit) : Type 0 where
  pub marker : Commit
  pub last : last_of h.region.number commits None ≡ Some marker
  pub closed : marker.kind ≡ kind.Closed
  pub seq : marker.seq ≡ commit_count h.region.number commits

-- what holds of each region of a cluster

abbrev pub Begins : Hosted → Type 0
Begins h = begins_below h.region.low h.region.high ≡ true

-- it holds the lowest key of its range
abbrev pub HoldsFirst : Hosted → Type 0
HoldsFirst h = IsBounded h.region → holds h.region.table.name (first_key h.region.low) h.region ≡ true

-- some key is held by it and by each region that it overlaps
abbrev pub MeetsEach : List Hosted → Hosted → Type 0
MeetsEach regions h = AllByRecursion (λ (g : Hosted). IsBounded h.region → IsBounded g.region → overlap h.region g.region ≡ true → Meet h.region g.region) regions

-- it is a table's first region, or comes from its parents
abbrev pub HasOrigin : List Hosted → Hosted → Type 0
HasOrigin regions h = (h.region.parents ≡ []) ⊎ ComesFrom regions h.region

-- once it is Gone its last commit is a close marker
abbrev pub GoneIsClosed : List Commit → Hosted → Type 0
GoneIsClosed commits h = h.place ≡ place.Gone → EndsClosed h commits
