-- What stands where nothing is refused.
use Rattle.std.proofs.Common.{◌≡◌, ℕ, ◌+◌, ◌≤◌, Bool, true, false, not, cond, List, [], ◌∷◌, length, Option, Some, None, Result, Ok, Err, refl, sym}
use Rattle.std.specs.Prelude.{is_none, is_some, IfSome, OnErr}
use Rattle.std.specs.Result.{is_err}
use Rattle.std.proofs.lemmas.Bool.{ltb-false, not-false, false≢true}
use Rattle.std.proofs.lemmas.Option.{none-some}
use Rattle.rep_types.specs.declared.state.PlaceOf.{PlaceOf}
use Rattle.rep_types.specs.declared.state.PlaceOf.TheVariants as place
use Rattle.region_meta.specs.declared.region.Region.{Region}
use Rattle.region_meta.specs.declared.error.MetaError.{MetaError}
use Rattle.region_meta.specs.declared.error.MetaError.TheVariants as error
use Rattle.region_meta.specs.Regions.{Map, given, if_some, is_off, is_gone, region_of, table_of}
use Rattle.region_meta.specs.Refusals.{first, too_many, table_refusal, split_refusal, merge_refusal, splits, is_adjacent}

pub none-refused : {X : Type 0} (o : Option MetaError) (x : X) → IfSome o (λ why. Ok x ≡ Err why) → o ≡ None
none-refused None x h = refl
none-refused (Some e) x h = absurd (cc)

-- the first test fails, and the rest is tried
passed : (b : Bool) (x : MetaError) (rest : Option MetaError) → cond b (Some x) rest ≡ None → (b ≡ false) × (rest ≡ None)
passed true x rest h = absurd (none-some x (sym h))
passed false x rest h = (refl, h)

pub record MaySplit (n : ℕ) (key : List ℕ) (m : Map) : Type 0 where
  pub r : Region
  pub there : region_of n m ≡ Some r
  pub off : is_off r.place ≡ true
  pub key_splits : splits key r ≡ true
  pub room : length m.regions + 2 ≤ 4096

split-by : (n : ℕ) (key : List ℕ) (closed : Bool) (m : Map) (o : Option Region) → region_of n m ≡ o
    → first ((is_none o, error.NoRegion) ∷ (not (is_off (given o place.Gone (λ r. r.place))), error.WrongPlace (given o place.Gone (λ r. r.place))) ∷ (not closed, error.NotClosed)
    ∷ (not (if_some o (splits key)), error.BadKey) ∷ (too_many 2 m, error.TooMany 4096) ∷ []) ≡ None → MaySplit n key m
unfolding given
split-by n key closed m None e h = absurd (none-some error.NoRegion (sym h))
split-by n key closed m (Some r) e h =
    let a = passed (not (is_off r.place)) (error.WrongPlace r.place) _ h in
    let b = passed (not closed) error.NotClosed _ a.1 in
    let c = passed (not (splits key r)) error.BadKey _ b.1 in
    let d = passed (too_many 2 m) (error.TooMany 4096) None c.1 in
    record { r = r; there = e; off = not-false (is_off r.place) a.0; key_splits = not-false (splits key r) c.0; room = ltb-false 4096 (length m.regions + 2) d.0 }

pub may-split : (n : ℕ) (key : List ℕ) (closed : Bool) (m : Map) → split_refusal n key closed m ≡ None → MaySplit n key m
may-split n key closed m h = split-by n key closed m (region_of n m) refl h

pub record MayMerge (low high : ℕ) (m : Map) : Type 0 where
  pub r : Region
  pub s : Region
  pub there_r : region_of low m ≡ Some r
  pub there_s : region_of high m ≡ Some s
  pub off_r : is_off r.place ≡ true
  pub off_s : is_off s.place ≡ true
  pub adjacent : is_adjacent r s ≡ true
  pub room : length m.regions + 1 ≤ 4096

merge-by : (low high : ℕ) (closed : Bool) (m : Map) (o u : Option Region) → region_of low m ≡ o → region_of high m ≡ u
    → first ((is_none o, error.NoRegion) ∷ (is_none u, error.NoRegion)
    ∷ (not (is_off (given o place.Gone (λ r. r.place))), error.WrongPlace (given o place.Gone (λ r. r.place)))
    ∷ (not (is_off (given u place.Gone (λ r. r.place))), error.WrongPlace (given u place.Gone (λ r. r.place)))
    ∷ (not closed, error.NotClosed) ∷ (not (if_some o (λ r. if_some u (is_adjacent r))), error.NotAdjacent) ∷ (too_many 1 m, error.TooMany 4096) ∷ []) ≡ None → MayMerge low high m
unfolding given
merge-by low high closed m None u e f h = absurd (none-some error.NoRegion (sym h))
merge-by low high closed m (Some r) None e f h = absurd (none-some error.NoRegion (sym h))
merge-by low high closed m (Some r) (Some s) e f h =
    let a = passed (not (is_off r.place)) (error.WrongPlace r.place) _ h in
    let b = passed (not (is_off s.place)) (error.WrongPlace s.place) _ a.1 in
    let c = passed (not closed) error.NotClosed _ b.1 in
    let d = passed (not (is_adjacent r s)) error.NotAdjacent _ c.1 in
    let g = passed (too_many 1 m) (error.TooMany 4096) None d.1 in
    record { r = r; s = s; there_r = e; there_s = f; off_r = not-false (is_off r.place) a.0; off_s = not-false (is_off s.place) b.0; adjacent = not-false (is_adjacent r s) d.0; room = ltb-false 4096 (length m.regions + 1) g.0 }

pub may-merge : (low high : ℕ) (closed : Bool) (m : Map) → merge_refusal low high closed m ≡ None → MayMerge low high m
may-merge low high closed m h = merge-by low high closed m (region_of low m) (region_of high m) refl refl h

pub not-gone : (p : PlaceOf) → is_off p ≡ true → is_gone p ≡ false
not-gone place.Off h = refl
not-gone (place.Opening s) h = refl
not-gone (place.On s) h = refl
not-gone (place.Closing s) h = refl
not-gone (place.Lost s) h = refl
not-gone place.Gone h = sym h

pub on-err : {X E : Type 0} (r : Result X E) (P : Type 0) → is_err r ≡ true → OnErr r P → P
on-err (Ok x) P e h = absurd (false≢true e)
on-err (Err x) P e h = h

pub record MayAdd (name : List ℕ) (m : Map) : Type 0 where
  pub absent : is_some (table_of name m) ≡ false
  pub room : length m.regions + 1 ≤ 4096

pub may-add : (name : List ℕ) (m : Map) → table_refusal name m ≡ None → MayAdd name m
may-add name m h =
    let a = passed (is_some (table_of name m)) error.Exists _ h in
    let b = passed (too_many 1 m) (error.TooMany 4096) None a.1 in
    record { absent = a.0; room = ltb-false 4096 (length m.regions + 1) b.0 }
