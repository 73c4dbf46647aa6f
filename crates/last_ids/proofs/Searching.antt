-- Ids that rise by region can be searched.
use Rattle.std.proofs.Common.{◌≡◌, ℕ, ◌+◌, ◌<◌, zero, suc, List, [], ◌∷◌, length, get_or, ap, ◌∙◌, subst, arith}
use Rattle.std.specs.List.Sorted.{IsSortedBy, IsNonDecreasingBy}
use Rattle.std.specs.declared.cmp.Ordering.TheVariants.{Less, Greater}
use Rattle.std.specs.Ordering.{nat_cmp, is_lt, ordering_index, ordering_reverse}
use Rattle.std.proofs.lemmas.Cmp.{nat_cmp_total}
use Rattle.std.proofs.lemmas.List.Sorted.{searchable_from_sorted}
use Rattle.last_ids.specs.declared.ids.LastId.{LastId}
use Rattle.last_ids.specs.Ids.{IsRising}

pub above : (r s : ℕ) → nat_cmp r s ≡ Less → nat_cmp s r ≡ Greater
above r s l = nat_cmp_total.antisymm s r ∙ ap ordering_reverse l

pub below : (r s : ℕ) → nat_cmp r s ≡ Greater → nat_cmp s r ≡ Less
below r s g = nat_cmp_total.antisymm s r ∙ ap ordering_reverse g

next-above : (xs : List LastId) (k : ℕ) (d : LastId) → IsRising xs → suc k < length xs → nat_cmp (get_or xs k d).region (get_or xs (suc k) d).region ≡ Less
next-above [] k d r h = absurd (omega arith)
next-above (x ∷ []) k d r h = absurd (omega arith)
next-above (x ∷ y ∷ xs) zero d r h = r.0.0
next-above (x ∷ y ∷ xs) (suc k) d r h = next-above (y ∷ xs) k d r.1 (omega arith)

next : (xs : List LastId) (k : ℕ) (d : LastId) → IsRising xs → k + 1 < length xs → nat_cmp (get_or xs k d).region (get_or xs (k + 1) d).region ≡ Less
next xs k d r h =
    let one : suc k ≡ k + 1 = omega arith in
    subst (λ n. nat_cmp (get_or xs k d).region (get_or xs n d).region ≡ Less) one (next-above xs k d r (omega arith))

by_region : (xs : List LastId) → IsRising xs → IsSortedBy (λ a b. is_lt (nat_cmp a.region b.region)) xs
by_region xs r k d low h = ap is_lt (above (get_or xs k d).region (get_or xs (k + 1) d).region (next xs k d r h))

-- the premise of a search by region
pub rising-searchable : (n : ℕ) (xs : List LastId) → IsRising xs → IsNonDecreasingBy (λ y. ordering_index (nat_cmp y.region n)) xs
rising-searchable n xs r = searchable_from_sorted nat_cmp_total (λ (x : LastId). x.region) xs n (by_region xs r)
