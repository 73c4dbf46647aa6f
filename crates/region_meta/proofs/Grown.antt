-- The orders are kept by a split and a merge of regions.
use Rattle.std.proofs.Common.{◌≡◌, ℕ, ◌+◌, ◌<◌, ◌≤◌, max, true, List, [], ◌∷◌, ◌++◌, length, Option, Some, None, refl, ap, sym, ◌∙◌, subst, slice_get, set, arith, map, position, ◌⊎◌, ⊎_elim, zero, suc}
use Rattle.std.specs.Prelude.{◌&&◌, not, codes, is_some}
use Rattle.std.specs.Str.{bytes_eq}
use Rattle.std.proofs.lemmas.Bool.{false≢true, and_parts, both_ways}
use Rattle.std.proofs.lemmas.List.{map-set, map-append, length-map}
use Rattle.std.proofs.lemmas.Option.{none-some, same_Some, slice_get_within}
use Rattle.std.proofs.lemmas.Slice.Eq.{bytes_eq-Decides}
use Rattle.rep_types.specs.Range.{key_below, is_below, begins_below}
use Rattle.rep_types.specs.declared.state.PlaceOf.TheVariants as place
use Rattle.region_meta.specs.declared.region.Region.{Region}
use Rattle.region_meta.specs.Regions.{Table, is_named, is_off}
use Rattle.region_meta.specs.Refusals.{splits, low_below, is_adjacent, same_key}
use Rattle.region_meta.specs.Changes.{moved, low_half, high_half, joined}
use Rattle.region_meta.specs.Orders.{Shape, shape, IsKept, IsOrder, put_halves, put_other, leave_out}
use Rattle.region_meta.proofs.Following.{member-some}
use Rattle.region_meta.proofs.Keys.{below-below, below-itself}
use Rattle.region_meta.proofs.Kept.{AreNew, one-new, grown-kept, retires-one, retires-two, split-order, merge-order}
use Rattle.region_meta.proofs.Lookups.{position-at, Passes}
use Rattle.region_meta.proofs.Refused.{not-gone}
use Rattle.region_meta.proofs.Shapes.{shape-at}

begins-low : (low : Option (List ℕ)) (key : List ℕ) → low_below low key ≡ true → begins_below low (Some key) ≡ true
begins-low None key h = refl
begins-low (Some low) key h = h

pub generation-below : (tables : List Table) (rs : List Region) (orders : List (List ℕ)) (i : ℕ) (r : Region) → IsKept tables (map shape rs) orders → slice_get rs i ≡ Some r → r.generation < 4096
generation-below tables rs orders i r kept e =
    let young : r.generation ≤ i = kept.young i (shape r) (shape-at rs i r e) in
    let within : i < length rs = slice_get_within rs i r e in
    let few : length (map shape rs) ≤ 4096 = kept.few in
    let same : length (map shape rs) ≡ length rs = length-map rs shape in
    omega arith

halves-new : (rs : List Region) (i : ℕ) (key : List ℕ) (r : Region) → length rs + 2 ≤ 4096 → r.generation ≤ i → i < length rs
    → AreNew (length (map shape rs)) r.table (shape (low_half (length rs + 1) key r) ∷ shape (high_half (length rs + 1 + 1) key r) ∷ [])
halves-new rs i key r room young within = record { few = let l = same in omega arith; numbered = numbered; young = generations; table_is = table_is }
  where
    same : length (map shape rs) ≡ length rs
    same = length-map rs shape

    numbered : (k : ℕ) (s : Shape) → slice_get (shape (low_half (length rs + 1) key r) ∷ shape (high_half (length rs + 1 + 1) key r) ∷ []) k ≡ Some s → s.number ≡ (length (map shape rs) + k) + 1
    numbered zero s e = sym (ap (λ (x : Shape). x.number) (same_Some _ s e)) ∙ (let l : length (map shape rs) ≡ length rs = same in omega arith)
    numbered (suc zero) s e = sym (ap (λ (x : Shape). x.number) (same_Some _ s e)) ∙ (let l : length (map shape rs) ≡ length rs = same in omega arith)
    numbered (suc (suc k)) s e = absurd (none-some s e)

    generations : (k : ℕ) (s : Shape) → slice_get (shape (low_half (length rs + 1) key r) ∷ shape (high_half (length rs + 1 + 1) key r) ∷ []) k ≡ Some s → s.generation ≤ length (map shape rs) + k
    generations zero s e = subst (λ (x : Shape). x.generation ≤ length (map shape rs) + 0) (same_Some _ s e) (let l : length (map shape rs) ≡ length rs = same in omega arith)
    generations (suc zero) s e = subst (λ (x : Shape). x.generation ≤ length (map shape rs) + 1) (same_Some _ s e) (let l : length (map shape rs) ≡ length rs = same in omega arith)
    generations (suc (suc k)) s e = absurd (none-some s e)

    table_is : (k : ℕ) (s : Shape) → slice_get (shape (low_half (length rs + 1) key r) ∷ shape (high_half (length rs + 1 + 1) key r) ∷ []) k ≡ Some s → s.table ≡ r.table
    table_is zero s e = ap (λ (x : Shape). x.table) (sym (same_Some _ s e))
    table_is (suc zero) s e = ap (λ (x : Shape). x.table) (sym (same_Some _ s e))
    table_is (suc (suc k)) s e = absurd (none-some s e)

pub split-kept : (tables : List Table) (rs : List Region) (orders : List (List ℕ)) (i at : ℕ) (r : Region) (ns : List ℕ) (key : List ℕ)
    → IsKept tables (map shape rs) orders → slice_get rs i ≡ Some r → position (is_named r.table) tables ≡ Some at → slice_get orders at ≡ Some ns
    → is_off r.place ≡ true → splits key r ≡ true → length rs + 2 ≤ 4096
    → IsKept tables (map shape (set rs i (moved place.Gone r) ++ low_half (length rs + 1) key r ∷ high_half (length rs + 1 + 1) key r ∷ [])) (set orders at (put_halves i (length rs) ns))
split-kept tables rs orders i at r ns key kept e there order off key_splits room =
    subst (λ (xs : List Shape). IsKept tables xs (set orders at (put_halves i (length rs) ns))) (sym shapes)
    (subst (λ n. IsKept tables (set (map shape rs) i (record (shape r) { gone = true }) ++ shape lo ∷ shape hi ∷ []) (set orders at (put_halves i n ns))) (length-map rs shape)
    (grown-kept (λ n. n ≡ i) tables (map shape rs) (set (map shape rs) i (record (shape r) { gone = true })) (shape lo ∷ shape hi ∷ []) orders r.table at (put_halves i (length (map shape rs)) ns)
    kept (retires-one (map shape rs) i (shape r) here)
    (halves-new rs i key r room (kept.young i (shape r) here) (slice_get_within rs i r e))
    (λ n s g f. ap (λ (x : Shape). x.table) (same_Some s (shape r) (sym f ∙ (ap (slice_get (map shape rs)) g ∙ here))))
    there
    (split-order (map shape rs) r.table ns i (shape r) (shape lo) (shape hi) key (kept.ordered r.table at ns there order) here refl (not-gone r.place off)
    (record { table_is = refl; alive = refl; begins = refl; some = begins-low r.low key parts.0 }) refl
    (record { table_is = refl; alive = refl; begins = refl; some = parts.1 }) refl)))
  where
    lo : Region
    lo = low_half (length rs + 1) key r

    hi : Region
    hi = high_half (length rs + 1 + 1) key r

    here : slice_get (map shape rs) i ≡ Some (shape r)
    here = shape-at rs i r e

    parts : (low_below r.low key ≡ true) × (is_below key r.high ≡ true)
    parts = and_parts (low_below r.low key) (is_below key r.high) (and_parts (not (bytes_eq key (codes "."))) (low_below r.low key && is_below key r.high) key_splits).1

    shapes : map shape (set rs i (moved place.Gone r) ++ lo ∷ hi ∷ []) ≡ set (map shape rs) i (record (shape r) { gone = true }) ++ shape lo ∷ shape hi ∷ []
    shapes = map-append shape (set rs i (moved place.Gone r)) (lo ∷ hi ∷ []) ∙ ap (λ (xs : List Shape). xs ++ shape lo ∷ shape hi ∷ []) (map-set shape rs i (moved place.Gone r))

pub some-at : {X : Type 0} (xs : List X) (i : ℕ) → i < length xs → (x : X) × (slice_get xs i ≡ Some x)
some-at [] i within = absurd (omega arith)
some-at (x ∷ xs) zero within = (x, refl)
some-at (x ∷ xs) (suc i) within = some-at xs i (omega arith)

-- a region that isn't Gone holds the key that it begins with
pub begins-below-end : (tables : List Table) (rs : List Region) (orders : List (List ℕ)) (i : ℕ) (r : Region) → IsKept tables (map shape rs) orders → slice_get rs i ≡ Some r → is_off r.place ≡ true → begins_below r.low r.high ≡ true
begins-below-end tables rs orders i r kept e off = by (position (is_named r.table) tables) refl (kept.known i (shape r) here)
  where
    here : slice_get (map shape rs) i ≡ Some (shape r)
    here = shape-at rs i r e

    by : (o : Option ℕ) → position (is_named r.table) tables ≡ o → is_some o ≡ true → begins_below r.low r.high ≡ true
    by None there h = absurd (false≢true h)
    by (Some at) there h =
        let p : Passes (is_named r.table) tables at = position-at (is_named r.table) tables at there in
        let within : at < length orders = subst (λ m. at < m) (sym kept.paired) (slice_get_within tables at p.0 p.1) in
        let ns = some-at orders at within in
        let order : IsOrder (map shape rs) r.table ns.0 = kept.ordered r.table at ns.0 there ns.1 in
        member-some (map shape rs) r.table (Some None) None ns.0 order.follow i (shape r) (order.whole i (shape r) here refl (not-gone r.place off)) here

-- the key where one region ends and the other begins
record Touch (r s : Region) : Type 0 where
  table_is : r.table ≡ s.table
  key : List ℕ
  ends : r.high ≡ Some key
  begins : s.low ≡ Some key

touch : (r s : Region) → is_adjacent r s ≡ true → Touch r s
touch r s h =
    let parts = and_parts (bytes_eq r.table s.table) (same_key r.high s.low) h in
    by r.high s.low refl refl parts.1 ((bytes_eq-Decides r.table s.table).0 parts.0)
  where
    by : (a b : Option (List ℕ)) → r.high ≡ a → s.low ≡ b → same_key a b ≡ true → r.table ≡ s.table → Touch r s
    by None b e f h t = absurd (false≢true h)
    by (Some a) None e f h t = absurd (false≢true h)
    by (Some a) (Some b) e f h t = record { table_is = t; key = a; ends = e; begins = f ∙ ap Some (sym ((bytes_eq-Decides a b).0 h)) }

below-through : (low high : Option (List ℕ)) (key : List ℕ) → begins_below low (Some key) ≡ true → is_below key high ≡ true → begins_below low high ≡ true
below-through None high key a b = refl
below-through (Some low) None key a b = refl
below-through (Some low) (Some high) key a b = below-below low key high a b

pub adjacent-apart : (tables : List Table) (rs : List Region) (orders : List (List ℕ)) (i j : ℕ) (r s : Region) → IsKept tables (map shape rs) orders
    → slice_get rs i ≡ Some r → slice_get rs j ≡ Some s → is_off r.place ≡ true → is_adjacent r s ≡ true → j ≡ i → ⊥
adjacent-apart tables rs orders i j r s kept e f off adjacent same =
    let t : Touch r s = touch r s adjacent in
    let one : s ≡ r = same_Some s r (sym f ∙ (ap (slice_get rs) same ∙ e)) in
    let low : r.low ≡ Some t.key = ap (λ (x : Region). x.low) (sym one) ∙ t.begins in
    both_ways (key_below t.key t.key) (below-itself t.key)
    (subst (λ (o : Option (List ℕ)). begins_below o (Some t.key) ≡ true) low (subst (λ (o : Option (List ℕ)). begins_below r.low o ≡ true) t.ends (begins-below-end tables rs orders i r kept e off)))

pub merge-kept : (tables : List Table) (rs : List Region) (orders : List (List ℕ)) (i j at : ℕ) (r s : Region) (ns : List ℕ)
    → IsKept tables (map shape rs) orders → slice_get rs i ≡ Some r → slice_get rs j ≡ Some s → position (is_named r.table) tables ≡ Some at → slice_get orders at ≡ Some ns
    → is_off r.place ≡ true → is_off s.place ≡ true → is_adjacent r s ≡ true → length rs + 1 ≤ 4096
    → IsKept tables (map shape (set (set rs i (moved place.Gone r)) j (moved place.Gone s) ++ joined (length rs + 1) r s ∷ [])) (set orders at (leave_out j (put_other i (length rs) ns)))
merge-kept tables rs orders i j at r s ns kept e f there order off_r off_s adjacent room =
    subst (λ (xs : List Shape). IsKept tables xs (set orders at (leave_out j (put_other i (length rs) ns)))) (sym shapes)
    (subst (λ n. IsKept tables (zs ++ shape whole ∷ []) (set orders at (leave_out j (put_other i n ns)))) (length-map rs shape)
    (grown-kept (λ n. (n ≡ i) ⊎ (n ≡ j)) tables (map shape rs) zs (shape whole ∷ []) orders r.table at (leave_out j (put_other i (length (map shape rs)) ns))
    kept (retires-two (map shape rs) i j (shape r) (shape s) here_r here_s apart)
    (one-new (length (map shape rs)) r.table (shape whole) (let l : length (map shape rs) ≡ length rs = length-map rs shape in omega arith)
    (let l : length (map shape rs) ≡ length rs = length-map rs shape in omega arith) old refl)
    (λ n u g h. ⊎_elim
    (λ a. ap (λ (x : Shape). x.table) (same_Some u (shape r) (sym h ∙ (ap (slice_get (map shape rs)) a ∙ here_r))))
    (λ b. ap (λ (x : Shape). x.table) (same_Some u (shape s) (sym h ∙ (ap (slice_get (map shape rs)) b ∙ here_s))) ∙ sym t.table_is) g)
    there
    (merge-order (map shape rs) r.table ns i j (shape r) (shape s) (shape whole) t.key (kept.ordered r.table at ns there order) here_r here_s refl (sym t.table_is)
    (not-gone r.place off_r) (not-gone s.place off_s) t.ends t.begins apart
    (record { table_is = refl; alive = refl; begins = refl; some = below-through r.low s.high t.key some_r some_s }) refl)))
  where
    whole : Region
    whole = joined (length rs + 1) r s

    zs : List Shape
    zs = set (set (map shape rs) i (record (shape r) { gone = true })) j (record (shape s) { gone = true })

    here_r : slice_get (map shape rs) i ≡ Some (shape r)
    here_r = shape-at rs i r e

    here_s : slice_get (map shape rs) j ≡ Some (shape s)
    here_s = shape-at rs j s f

    t : Touch r s
    t = touch r s adjacent

    apart : j ≡ i → ⊥
    apart same = adjacent-apart tables rs orders i j r s kept e f off_r adjacent same

    some_r : begins_below r.low (Some t.key) ≡ true
    some_r = subst (λ (o : Option (List ℕ)). begins_below r.low o ≡ true) t.ends (begins-below-end tables rs orders i r kept e off_r)

    some_s : is_below t.key s.high ≡ true
    some_s = subst (λ (o : Option (List ℕ)). begins_below o s.high ≡ true) t.begins (begins-below-end tables rs orders j s kept f off_s)

    old : max r.generation s.generation + 1 ≤ length (map shape rs)
    old =
        let l : length (map shape rs) ≡ length rs = length-map rs shape in
        let young_r : r.generation ≤ i = kept.young i (shape r) here_r in
        let young_s : s.generation ≤ j = kept.young j (shape s) here_s in
        let within_r : i < length rs = slice_get_within rs i r e in
        let within_s : j < length rs = slice_get_within rs j s f in
        omega arith

    shapes : map shape (set (set rs i (moved place.Gone r)) j (moved place.Gone s) ++ whole ∷ []) ≡ zs ++ shape whole ∷ []
    shapes = map-append shape (set (set rs i (moved place.Gone r)) j (moved place.Gone s)) (whole ∷ [])
        ∙ ap (λ (xs : List Shape). xs ++ shape whole ∷ []) (map-set shape (set rs i (moved place.Gone r)) j (moved place.Gone s) ∙ ap (λ (xs : List Shape). set xs j (record (shape s) { gone = true })) (map-set shape rs i (moved place.Gone r)))
