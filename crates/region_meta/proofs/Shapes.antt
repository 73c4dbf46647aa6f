-- Regions and their shapes, by their places and by their numbers.
use Rattle.std.proofs.Common.{◌≡◌, ℕ, ◌+◌, ◌-◌, ◌≤◌, List, Option, Some, None, refl, ap, sym, ◌∙◌, slice_get, set, arith, find, map, Bor}
use Rattle.std.specs.Option.{option_map, option_copied, IfSome}
use Rattle.std.proofs.lemmas.Bool.{eqb-true, eq-eqb}
use Rattle.std.proofs.lemmas.Option.{none-some, same_Some, slice_get-map}
use Rattle.region_meta.specs.declared.region.Region.{Region}
use Rattle.region_meta.specs.Regions.{is_region}
use Rattle.region_meta.specs.Changes.{replace}
use Rattle.region_meta.specs.Orders.{Shape, shape}
use Rattle.region_meta.proofs.Lookups.{find-only, find-none, replace-only}

pub shape-at : (rs : List Region) (n : ℕ) (r : Region) → slice_get rs n ≡ Some r → slice_get (map shape rs) n ≡ Some (shape r)
shape-at rs n r e = slice_get-map shape rs n ∙ ap (option_map shape) e

-- the region of a shape
pub record Shaped (rs : List Region) (n : ℕ) (s : Shape) : Type 0 where
  pub r : Region
  pub at : slice_get rs n ≡ Some r
  pub is : shape r ≡ s

pub shaped : (rs : List Region) (n : ℕ) (s : Shape) → slice_get (map shape rs) n ≡ Some s → Shaped rs n s
shaped rs n s e = by (slice_get rs n) refl (sym (slice_get-map shape rs n) ∙ e)
  where
    by : (o : Option Region) → slice_get rs n ≡ o → option_map shape o ≡ Some s → Shaped rs n s
    by None at e = absurd (none-some s e)
    by (Some r) at e = record { r = r; at = at; is = same_Some (shape r) s e }

-- regions are numbered from 1
abbrev pub Numbered : List Region → Type 0
Numbered rs = (n : ℕ) (r : Region) → slice_get rs n ≡ Some r → r.number ≡ n + 1

pub numbered-regions : (rs : List Region) → ((n : ℕ) (s : Shape) → slice_get (map shape rs) n ≡ Some s → s.number ≡ n + 1) → Numbered rs
numbered-regions rs h n r e = h n (shape r) (shape-at rs n r e)

pub region-at : (rs : List Region) → Numbered rs → (n : ℕ) → 1 ≤ n → find (is_region n) rs ≡ slice_get rs (n - 1)
region-at rs numbered n least = by (slice_get rs (n - 1)) refl
  where
    by : (o : Option Region) → slice_get rs (n - 1) ≡ o → find (is_region n) rs ≡ o
    by None e = find-none (is_region n) rs (λ k y at is.
        let own : y.number ≡ k + 1 = numbered k y at in
        let same : y.number ≡ n = eqb-true y.number n is in
        let here : k ≡ n - 1 = omega arith in
        none-some y (sym e ∙ ap (slice_get rs) (sym here) ∙ at))
    by (Some r) e =
        let own : r.number ≡ (n - 1) + 1 = numbered (n - 1) r e in
        find-only (is_region n) rs (n - 1) r e (eq-eqb r.number n (omega arith)) (λ k y at is.
        let other : y.number ≡ k + 1 = numbered k y at in
        let same : y.number ≡ n = eqb-true y.number n is in
        omega arith)

-- what a region gives way to, by its place
pub replace-at : (rs : List Region) → Numbered rs → (n : ℕ) → (r y : Region) → 1 ≤ n → slice_get rs (n - 1) ≡ Some r → replace (is_region n) y rs ≡ set rs (n - 1) y
replace-at rs numbered n r y least e =
    let own : r.number ≡ (n - 1) + 1 = numbered (n - 1) r e in
    replace-only (is_region n) y rs (n - 1) r e (eq-eqb r.number n (omega arith)) (λ k z at is.
    let other : z.number ≡ k + 1 = numbered k z at in
    let same : z.number ≡ n = eqb-true z.number n is in
    omega arith)

-- a fact of what is lent, where something is
pub copied : {X : Type 0} (o : Option (Bor X)) (P : X → Type 0) → ((x : X) → option_copied o ≡ Some x → P x) → IfSome o (λ r. P r.now)
copied None P h = tt
copied (Some r) P h = h r.now refl
