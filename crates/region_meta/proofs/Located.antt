-- The region that the search finds is the one that holds the row.
use Rattle.std.proofs.Common.{◌≡◌, ℕ, ◌+◌, ◌-◌, ◌<◌, ◌≤◌, ⊎_elim, Bool, true, false, not, List, [], ◌∷◌, length, get_or, Option, Some, None, refl, ap, sym, ◌∙◌, subst, slice_get, arith, find, position, map, suc, cond, All}
use Rattle.std.specs.Prelude.{◌↔◌, IsNone, is_some, IsTrue}
use Rattle.std.specs.Str.{bytes_eq}
use Rattle.std.specs.Option.{option_map}
use Rattle.std.proofs.lemmas.Bool.{not-false, and_parts, and_from, not-true, true≢false, false≢true, cases_lt, eqb-true}
use Rattle.std.proofs.lemmas.Option.{none-some, same_Some, slice_get_within}
use Rattle.std.proofs.lemmas.Slice.Eq.{bytes_eq-Decides}
use Rattle.rep_types.specs.Range.{key_below, is_below, is_from}
use Rattle.region_meta.specs.declared.region.Region.{Region}
use Rattle.region_meta.specs.Regions.{Table, Map, given, if_some, serves, is_gone, is_named, is_region, region_of, table_of}
use Rattle.region_meta.specs.Orders.{Shape, shape, IsOrder, IsKept, IsLastAt, IsHolder, begins_by, Follow}
use Rattle.region_meta.proofs.Following.{Seat, seat, begins_first, only-one, shape_holds}
use Rattle.region_meta.proofs.Lookups.{find-only, find-none, position-found}
use Rattle.region_meta.proofs.Shapes.{Shaped, shaped, shape-at, Numbered, numbered-regions, region-at}
use Rattle.std.proofs.lemmas.List.{get_or_default}

begins-at : (rs : List Region) (row : List ℕ) (n : ℕ) (r : Region) → slice_get rs n ≡ Some r → begins_by rs row n ≡ is_from r.low row
unfolding given
begins-at rs row n r e = rw e refl

-- the region at the place that the search found holds the row
found-holds : (rs : List Region) (row t : List ℕ) (ns : List ℕ) (k : ℕ) → Follow (map shape rs) t (Some None) ns None
    → IsLastAt rs row ns k → (st : Seat (map shape rs) t ns None k) → shape_holds st.s row ≡ true
found-holds rs row t ns k f last st =
    and_from (is_from st.s.low row) (is_below row st.s.high) from below
  where
    within : k < length ns
    within = last.within

    from : is_from st.s.low row ≡ true
    from = ⊎_elim
        (λ zero_k. let low : Some st.s.low ≡ Some None = begins_first (map shape rs) t (Some None) None ns f st.s (omega arith) (ap (λ i. slice_get (map shape rs) (get_or ns i 0)) (sym zero_k) ∙ st.at) in
        ap (λ (o : Option (List ℕ)). is_from o row) (same_Some st.s.low None low))
        (λ begins. let sh : Shaped rs (get_or ns k 0) st.s = shaped rs (get_or ns k 0) st.s st.at in
        ap (λ (s : Shape). is_from s.low row) (sym sh.is) ∙ (sym (begins-at rs row (get_or ns k 0) sh.r sh.at) ∙ begins)) last.begins

    by_end : (high : Option (List ℕ)) (u : Shape) → option_map Some high ≡ Some u.low → is_from u.low row ≡ false → is_below row high ≡ true
    by_end None u e out = absurd (none-some u.low e)
    by_end (Some h) u e out = not-false (key_below row h) (ap (λ (o : Option (List ℕ)). is_from o row) (same_Some (Some h) u.low e) ∙ out)

    at_last : (high : Option (List ℕ)) → option_map Some high ≡ None → is_below row high ≡ true
    at_last None e = refl
    at_last (Some h) e = absurd (none-some (Some h) (sym e))

    below : is_below row st.s.high ≡ true
    below = ⊎_elim
        (λ more.
        let nx = st.next more in
        let sh : Shaped rs (get_or ns (suc k) 0) nx.0 = shaped rs (get_or ns (suc k) 0) nx.0 nx.1 in
        let same : k + 1 ≡ suc k = omega arith in
        by_end st.s.high nx.0 (sym nx.2)
        (ap (λ (s : Shape). is_from s.low row) (sym sh.is)
        ∙ (sym (begins-at rs row (get_or ns (suc k) 0) sh.r sh.at)
        ∙ (ap (λ i. begins_by rs row (get_or ns i 0)) (sym same) ∙ last.next (omega arith)))))
        (λ end. at_last st.s.high (st.last (omega arith))) (cases_lt (suc k) (length ns))

-- the one region that serves the row
pub record Only (rs : List Region) (t row : List ℕ) (place : ℕ) : Type 0 where
  pub r : Region
  pub at : slice_get rs place ≡ Some r
  pub serves_it : serves t row r ≡ true
  pub alone : (n : ℕ) (y : Region) → slice_get rs n ≡ Some y → serves t row y ≡ true → n ≡ place

pub only : (rs : List Region) (row t : List ℕ) (ns : List ℕ) (k place : ℕ) → IsOrder (map shape rs) t ns → IsLastAt rs row ns k → place ≡ get_or ns k 0 → Only rs t row place
only rs row t ns k place order last is =
    record { r = sh.r; at = ap (slice_get rs) is ∙ sh.at; serves_it = serves_it; alone = alone }
  where
    st : Seat (map shape rs) t ns None k
    st = seat (map shape rs) t (Some None) None ns order.follow k last.within

    sh : Shaped rs (get_or ns k 0) st.s
    sh = shaped rs (get_or ns k 0) st.s st.at

    holds : shape_holds st.s row ≡ true
    holds = found-holds rs row t ns k order.follow last st

    serves_it : serves t row sh.r ≡ true
    serves_it =
        let table : sh.r.table ≡ t = ap (λ (s : Shape). s.table) sh.is ∙ st.table_is in
        and_from _ (not (is_gone sh.r.place))
        (and_from (bytes_eq sh.r.table t) _ ((bytes_eq-Decides sh.r.table t).1 table) (ap (λ (s : Shape). shape_holds s row) sh.is ∙ holds))
        (ap not (ap (λ (s : Shape). s.gone) sh.is ∙ st.alive))

    alone : (n : ℕ) (y : Region) → slice_get rs n ≡ Some y → serves t row y ≡ true → n ≡ place
    alone n y e s =
        let parts = and_parts _ (not (is_gone y.place)) s in
        let held = and_parts (bytes_eq y.table t) _ parts.0 in
        let table : y.table ≡ t = (bytes_eq-Decides y.table t).0 held.0 in
        let there = order.whole n (shape y) (shape-at rs n y e) table (not-true (is_gone y.place) parts.1) in
        only-one (map shape rs) t (Some None) None ns row order.follow n (get_or ns k 0) (shape y) st.s there st.inside (shape-at rs n y e) st.at held.1 holds ∙ sym is

-- a region that is found by its number
pub record Numbering (rs : List Region) (n : ℕ) (p : Region → Bool) : Type 0 where
  pub i : ℕ
  pub y : Region
  pub at : slice_get rs i ≡ Some y
  pub number_is : y.number ≡ n
  pub passes : p y ≡ true

served : (rs : List Region) (n : ℕ) (p : Region → Bool) → IsTrue (if_some (find (is_region n) rs) p) → Numbering rs n p
unfolding given
served [] n p h = absurd (false≢true h)
served (r ∷ rs) n p h =
    (elim (is_region n r) as (λ (t : Bool). is_region n r ≡ t → IsTrue (if_some (cond t (Some r) (find (is_region n) rs)) p) → Numbering (r ∷ rs) n p) [
      | true ↦ λ t g. record { i = 0; y = r; at = refl; number_is = eqb-true r.number n t; passes = g }
      | false ↦ λ t g. let later : Numbering rs n p = served rs n p g in record { i = suc later.i; y = later.y; at = later.at; number_is = later.number_is; passes = later.passes }
    ]) refl h

serves-some : (rs : List Region) (n : ℕ) (p : Region → Bool) (r : Region) → find (is_region n) rs ≡ Some r → p r ≡ true → IsTrue (if_some (find (is_region n) rs) p)
unfolding given
serves-some rs n p r e h = subst (λ (o : Option Region). IsTrue (if_some o p)) (sym e) h

-- what is said of a row's region
pub record Located (m : Map) (t row : List ℕ) (result : Option ℕ) : Type 0 where
  pub found : (n : ℕ) → (result ≡ Some n) ↔ IsTrue (if_some (region_of n m) (serves t row))
  pub none : IsNone result ↔ IsNone (table_of t m)
  pub first : result ≡ option_map (λ r. r.number) (find (serves t row) m.regions)

nobody : (tables : List Table) (rs : List Region) (orders : List (List ℕ)) (t row : List ℕ) → IsKept tables (map shape rs) orders → position (is_named t) tables ≡ None
    → (n : ℕ) (y : Region) → slice_get rs n ≡ Some y → serves t row y ≡ true → ⊥
nobody tables rs orders t row kept absent n y e s =
    let parts = and_parts _ (not (is_gone y.place)) s in
    let held = and_parts (bytes_eq y.table t) _ parts.0 in
    let table : y.table ≡ t = (bytes_eq-Decides y.table t).0 held.0 in
    let known : is_some (position (is_named y.table) tables) ≡ true = kept.known n (shape y) (shape-at rs n y e) in
    true≢false (sym known ∙ ap is_some (ap (λ x. position (is_named x) tables) table ∙ absent))

nothing : {X : Type 0} (o : Option X) → is_some o ≡ false → IsNone o
nothing None h = refl
nothing (Some x) h = absurd (true≢false h)

something : {X : Type 0} (o : Option X) → is_some o ≡ true → IsNone o → ⊥
something None h n = false≢true h
something (Some x) h n = true≢false n

pub located-none : (tables : List Table) (rs : List Region) (orders : List (List ℕ)) (t row : List ℕ) → IsKept tables (map shape rs) orders → position (is_named t) tables ≡ None
    → Located (record { tables = tables; regions = rs }) t row None
located-none tables rs orders t row kept absent =
    let no_one = nobody tables rs orders t row kept absent in
    record {
      found = λ n. (λ e. absurd (none-some n e), λ h. let s : Numbering rs n (serves t row) = served rs n (serves t row) h in absurd (no_one s.i s.y s.at s.passes));
      none = (λ _. nothing (find (is_named t) tables) (position-found (is_named t) tables ∙ ap is_some absent), λ _. refl);
      first = sym (ap (option_map (λ (r : Region). r.number)) (find-none (serves t row) rs no_one));
    }

pub located-some : (tables : List Table) (rs : List Region) (orders : List (List ℕ)) (t row : List ℕ) (at : ℕ) (ns : List ℕ) (result : Option ℕ)
    → IsKept tables (map shape rs) orders → position (is_named t) tables ≡ Some at → slice_get orders at ≡ Some ns → IsHolder rs row ns result
    → Located (record { tables = tables; regions = rs }) t row result
located-some tables rs orders t row at ns result kept there order holder =
    record { found = found; none = (λ h. absurd (something result (ap is_some is) h), λ h. absurd (something (find (is_named t) tables) (position-found (is_named t) tables ∙ ap is_some there) h)); first = is ∙ sym first }
  where
    place : ℕ
    place = get_or ns holder.k 0

    one : Only rs t row place
    one = only rs row t ns holder.k place (kept.ordered t at ns there order) holder.last refl

    is : result ≡ Some one.r.number
    is = holder.number_is ∙ ap (option_map (λ (r : Region). r.number)) one.at

    numbered : Numbered rs
    numbered = numbered-regions rs kept.numbered

    own : one.r.number ≡ place + 1
    own = numbered place one.r one.at

    first : option_map (λ (r : Region). r.number) (find (serves t row) rs) ≡ Some one.r.number
    first = ap (option_map (λ (r : Region). r.number)) (find-only (serves t row) rs place one.r one.at one.serves_it one.alone)

    found : (n : ℕ) → (result ≡ Some n) ↔ IsTrue (if_some (find (is_region n) rs) (serves t row))
    found n = (
      (λ e.
          let same : one.r.number ≡ n = same_Some one.r.number n (sym is ∙ e) in
          let mine : one.r.number ≡ place + 1 = own in
          let least : 1 ≤ n = omega arith in
          let here : n - 1 ≡ place = omega arith in
          serves-some rs n (serves t row) one.r (region-at rs numbered n least ∙ (ap (slice_get rs) here ∙ one.at)) one.serves_it),
      (λ h.
          let s : Numbering rs n (serves t row) = served rs n (serves t row) h in
          let here : s.i ≡ place = one.alone s.i s.y s.at s.passes in
          let other : s.y.number ≡ s.i + 1 = numbered s.i s.y s.at in
          let named : s.y.number ≡ n = s.number_is in
          let mine : one.r.number ≡ place + 1 = own in
          let same : one.r.number ≡ n = omega arith in
          is ∙ ap Some same),
    )

-- what the search asks
pub some-places : (shapes : List Shape) (t : List ℕ) (ns : List ℕ) → Follow shapes t (Some None) ns None → 0 < length ns
some-places shapes t [] f = absurd (none-some None (sym f))
some-places shapes t (n ∷ ns) f = omega arith

pub known-places : (rs : List Region) (t : List ℕ) (ns : List ℕ) → Follow (map shape rs) t (Some None) ns None → All (λ n. n < length rs) ns
known-places rs t ns f k d within =
    let st : Seat (map shape rs) t ns None k = seat (map shape rs) t (Some None) None ns f k within in
    let sh : Shaped rs (get_or ns k 0) st.s = shaped rs (get_or ns k 0) st.s st.at in
    subst (λ n. n < length rs) (get_or_default ns k 0 d within) (slice_get_within rs (get_or ns k 0) sh.r sh.at)
