-- What the calls make of the regions, by their places.
use Rattle.std.proofs.Common.{◌≡◌, ℕ, ◌+◌, ◌-◌, ◌<◌, ◌≤◌, Bool, true, false, cond, List, [], ◌∷◌, ◌++◌, length, Option, Some, None, refl, ap, sym, ◌∙◌, subst, slice_get, set, find, map, length-set, ⊎_elim}
use Rattle.std.specs.Prelude.{IsSome, is_some, ◌||◌}
use Rattle.std.proofs.lemmas.Bool.{false≢true, or_parts, cases_eq}
use Rattle.std.proofs.lemmas.List.{set-get_or, set-append_left}
use Rattle.std.proofs.Math.Seq.{map-set_same}
use Rattle.std.proofs.lemmas.Option.{same_Some, slice_get_within, get_or_from_slice_get}
use Rattle.rep_types.specs.declared.state.PlaceOf.{PlaceOf}
use Rattle.rep_types.specs.declared.state.PlaceOf.TheVariants as place
use Rattle.region_meta.specs.declared.region.Region.{Region}
use Rattle.region_meta.specs.Regions.{Map, Table, given, is_region, is_gone}
use Rattle.region_meta.specs.Changes.{replace, moved, next_place, placed, split_at, merged, low_half, high_half, joined}
use Rattle.region_meta.specs.Orders.{shape}
use Rattle.region_meta.proofs.Lookups.{append-left, set-other, set-here}
use Rattle.region_meta.proofs.Shapes.{Numbered, region-at, replace-at}

pub some-within : (rs : List Region) → Numbered rs → (n : ℕ) → 1 ≤ n → IsSome (find (is_region n) rs) → n - 1 < length rs
some-within rs numbered n least h = by (slice_get rs (n - 1)) refl (sym (ap is_some (region-at rs numbered n least)) ∙ h)
  where
    by : (o : Option Region) → slice_get rs (n - 1) ≡ o → is_some o ≡ true → n - 1 < length rs
    by None e h = absurd (false≢true h)
    by (Some r) e h = slice_get_within rs (n - 1) r e

next-gone : (have next : PlaceOf) → is_gone (next_place have next) ≡ is_gone have
next-gone have next =
    (elim (is_gone have || is_gone next) as (λ (b : Bool). (is_gone have || is_gone next) ≡ b → is_gone (cond b have next) ≡ is_gone have) [
      | true ↦ λ e. refl
      | false ↦ λ e. let parts = or_parts (is_gone have) (is_gone next) e in parts.1 ∙ sym parts.0
    ]) refl

-- a place that is set leaves the shapes
pub placed-shapes : (rs : List Region) (i : ℕ) (r : Region) (p : PlaceOf) → slice_get rs i ≡ Some r → map shape (set rs i (moved (next_place r.place p) r)) ≡ map shape rs
placed-shapes rs i r p e =
    map-set_same shape rs i (moved (next_place r.place p) r) r
    (ap (λ (g : Bool). record (shape r) { gone = g }) (next-gone r.place p) ∙ ap shape (sym (get_or_from_slice_get rs i r r e)))

pub placed-is : (tables : List Table) (rs : List Region) (n : ℕ) (p : PlaceOf) (r : Region) → Numbered rs → 1 ≤ n → slice_get rs (n - 1) ≡ Some r
    → record { tables = tables; regions = set rs (n - 1) (moved (next_place r.place p) r) } ≡ placed n p (record { tables = tables; regions = rs })
unfolding given
placed-is tables rs n p r numbered least e =
    let m : Map = record { tables = tables; regions = rs } in
    ap (λ (xs : List Region). record m { regions = xs }) (sym (replace-at rs numbered n r (moved (next_place r.place p) r) least e))
    ∙ sym (ap (λ (o : Option Region). given o m (λ r. record m { regions = replace (is_region n) (moved (next_place r.place p) r) rs })) (region-at rs numbered n least ∙ e))

pub split-is : (tables : List Table) (rs : List Region) (n : ℕ) (key : List ℕ) (r : Region) → Numbered rs → 1 ≤ n → slice_get rs (n - 1) ≡ Some r
    → record { tables = tables; regions = set rs (n - 1) (moved place.Gone r) ++ low_half (length rs + 1) key r ∷ high_half (length rs + 1 + 1) key r ∷ [] } ≡ split_at n key (record { tables = tables; regions = rs })
unfolding given
split-is tables rs n key r numbered least e =
    let m : Map = record { tables = tables; regions = rs } in
    ap (λ (xs : List Region). record m { regions = xs ++ low_half (length rs + 1) key r ∷ high_half (length rs + 1 + 1) key r ∷ [] }) (sym (replace-at rs numbered n r (moved place.Gone r) least e))
    ∙ sym (ap (λ (o : Option Region). given o m (λ r. record m { regions = replace (is_region n) (moved place.Gone r) rs ++ low_half (length rs + 1) key r ∷ high_half (length rs + 1 + 1) key r ∷ [] })) (region-at rs numbered n least ∙ e))

-- an item is set to what it is
pub set-same : {X : Type 0} (xs : List X) (i : ℕ) (x y : X) → slice_get xs i ≡ Some x → y ≡ x → set xs i y ≡ xs
set-same xs i x y e same = ap (set xs i) (same ∙ sym (get_or_from_slice_get xs i x x e)) ∙ set-get_or xs i x

-- one region is Gone, with others behind
pub gone-one : (old news now : List Region) (i : ℕ) (r x : Region) → now ≡ old ++ news → i < length old → slice_get now i ≡ Some x → slice_get old i ≡ Some r
    → set now i (moved place.Gone x) ≡ set old i (moved place.Gone r) ++ news
gone-one old news now i r x is within at e =
    let same : x ≡ r = same_Some x r (sym at ∙ (ap (λ (xs : List Region). slice_get xs i) is ∙ (append-left old news i within ∙ e))) in
    ap (λ (xs : List Region). set xs i (moved place.Gone x)) is
    ∙ (set-append_left old news i (moved place.Gone x) within ∙ ap (λ (y : Region). set old i (moved place.Gone y) ++ news) same)

pub gone-two : (old news now : List Region) (i j : ℕ) (r s x y : Region) → now ≡ old ++ news → i < length old → j < length old → (j ≡ i → ⊥)
    → slice_get now i ≡ Some x → slice_get (set now i (moved place.Gone x)) j ≡ Some y → slice_get old i ≡ Some r → slice_get old j ≡ Some s
    → set (set now i (moved place.Gone x)) j (moved place.Gone y) ≡ set (set old i (moved place.Gone r)) j (moved place.Gone s) ++ news
gone-two old news now i j r s x y is within_i within_j apart at_x at_y e f =
    gone-one (set old i (moved place.Gone r)) news (set now i (moved place.Gone x)) j s y
    (gone-one old news now i r x is within_i at_x e)
    (subst (λ n. j < n) (sym (length-set old i (moved place.Gone r))) within_j)
    at_y (set-other old i j (moved place.Gone r) apart ∙ f)

still-numbered : (rs : List Region) (i : ℕ) (r : Region) → Numbered rs → slice_get rs i ≡ Some r → Numbered (set rs i (moved place.Gone r))
still-numbered rs i r numbered e n x at =
    ⊎_elim
    (λ here.
    let is : moved place.Gone r ≡ x = same_Some (moved place.Gone r) x (sym (set-here rs i (moved place.Gone r) (slice_get_within rs i r e)) ∙ (ap (slice_get (set rs i (moved place.Gone r))) (sym here) ∙ at)) in
    ap (λ (y : Region). y.number) (sym is) ∙ (numbered i r e ∙ ap (λ k. k + 1) (sym here)))
    (λ apart. numbered n x (sym (set-other rs i n (moved place.Gone r) apart) ∙ at))
    (cases_eq n i)

pub merge-is : (tables : List Table) (rs : List Region) (n m : ℕ) (r s : Region) → Numbered rs → 1 ≤ n → 1 ≤ m → (m - 1 ≡ n - 1 → ⊥) → slice_get rs (n - 1) ≡ Some r → slice_get rs (m - 1) ≡ Some s
    → record { tables = tables; regions = set (set rs (n - 1) (moved place.Gone r)) (m - 1) (moved place.Gone s) ++ joined (length rs + 1) r s ∷ [] } ≡ merged n m (record { tables = tables; regions = rs })
unfolding given
merge-is tables rs n m r s numbered least_n least_m apart e f =
    let mp : Map = record { tables = tables; regions = rs } in
    let ys : List Region = set rs (n - 1) (moved place.Gone r) in
    ap (λ (xs : List Region). record mp { regions = xs ++ joined (length rs + 1) r s ∷ [] })
    (sym (replace-at ys (still-numbered rs (n - 1) r numbered e) m s (moved place.Gone s) least_m (set-other rs (n - 1) (m - 1) (moved place.Gone r) apart ∙ f))
    ∙ ap (replace (is_region m) (moved place.Gone s)) (sym (replace-at rs numbered n r (moved place.Gone r) least_n e)))
    ∙ (sym (ap (λ (o : Option Region). given o mp (λ s. record mp { regions = replace (is_region m) (moved place.Gone s) (replace (is_region n) (moved place.Gone r) rs) ++ joined (length rs + 1) r s ∷ [] })) (region-at rs numbered m least_m ∙ f))
    ∙ sym (ap (λ (o : Option Region). given o mp (λ r. given (find (is_region m) rs) mp (λ s. record mp { regions = replace (is_region m) (moved place.Gone s) (replace (is_region n) (moved place.Gone r) rs) ++ joined (length rs + 1) r s ∷ [] }))) (region-at rs numbered n least_n ∙ e)))
