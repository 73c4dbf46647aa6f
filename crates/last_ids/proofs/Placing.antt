-- What putting an id does to the ids of all regions and to their order.
use Rattle.std.proofs.Common.{◌≡◌, ℕ, ◌<◌, ◌≤◌, zero, suc, Bool, true, false, cond, ◌==◌, List, [], ◌∷◌, length, get_or, set, slice_get, inl, inr, Some, None, Result, Ok, Err, Ordering, refl, ap, sym, ◌∙◌, subst, arith}
use Rattle.std.specs.Prelude.{insert, slice_set, IfOk, IfErr, OnOk, OnErr}
use Rattle.std.specs.List.Sorted.{IsBinarySearchResult, IsSearchInRange, IsNonDecreasingBy}
use Rattle.std.specs.declared.cmp.Ordering.TheVariants.{Less, Equal, Greater}
use Rattle.std.specs.Ordering.{nat_cmp, match_ordering, ordering_index, is_eq}
use Rattle.std.specs.Cmp.{unsigned_tied}
use Rattle.std.proofs.lemmas.Bool.{true≢false, eqb-true, eq-eqb, cases_lt}
use Rattle.std.proofs.lemmas.Cmp.{nat_cmp_total, tied_itself}
use Rattle.std.proofs.lemmas.Map.Lookups.{exact_unsigned}
use Rattle.std.proofs.lemmas.Option.{none-some, same_Some}
use Rattle.last_ids.specs.declared.ids.LastId.{LastId}
use Rattle.last_ids.specs.Ids.{seq_of, put, IsBelow, IsRising}
use Rattle.last_ids.proofs.Searching.{above, below}

-- whether two numbers are one, by how they compare
pub tells : (r s : ℕ) (o : Ordering) → nat_cmp r s ≡ o → (r == s) ≡ is_eq o
tells r s o h = sym (unsigned_tied r s) ∙ ap is_eq h

cond-twice : {X : Type 0} (b : Bool) (u v w : X) → cond b u w ≡ cond b u (cond b v w)
cond-twice true u v w = refl
cond-twice false u v w = refl

cond-swap : {X : Type 0} (a b : Bool) (u v w : X) → (a ≡ true → b ≡ false) → cond a u (cond b v w) ≡ cond b v (cond a u w)
cond-swap true true u v w apart = absurd (true≢false (apart refl))
cond-swap true false u v w apart = refl
cond-swap false b u v w apart = refl

-- two regions that differ are not both q
apart : (x n q : ℕ) → nat_cmp n x ≡ Greater → (x == q) ≡ true → (n == q) ≡ false
apart x n q g h = subst (λ z. (n == z) ≡ false) (eqb-true x q h) (tells n x Greater g)

-- what the new id changes
pub seq-put : (q : ℕ) (n : LastId) (xs : List LastId) → seq_of q (put n xs) ≡ cond (n.region == q) (Some n.seq) (seq_of q xs)
seq-put q n [] = refl
seq-put q n (x ∷ xs) =
    (elim (nat_cmp n.region x.region) as (λ (o : Ordering). nat_cmp n.region x.region ≡ o → seq_of q (match_ordering o (n ∷ x ∷ xs) (n ∷ xs) (x ∷ put n xs)) ≡ cond (n.region == q) (Some n.seq) (cond (x.region == q) (Some x.seq) (seq_of q xs))) [
      | Less ↦ λ h. refl
      | Equal ↦ λ h.
          cond-twice (n.region == q) (Some n.seq) (Some x.seq) (seq_of q xs)
          ∙ ap (λ r. cond (n.region == q) (Some n.seq) (cond (r == q) (Some x.seq) (seq_of q xs))) (exact_unsigned n.region x.region h)
      | Greater ↦ λ h.
          ap (cond (x.region == q) (Some x.seq)) (seq-put q n xs)
          ∙ cond-swap (x.region == q) (n.region == q) (Some x.seq) (Some n.seq) (seq_of q xs) (apart x.region n.region q h)
    ]) refl

each_order : {A : Type 0} (o : Ordering) (x y z : A) (P : A → Type 0) → (o ≡ Less → P x) → (o ≡ Equal → P y) → (o ≡ Greater → P z) → P (match_ordering o x y z)
each_order Less x y z P less equal greater = less refl
each_order Equal x y z P less equal greater = equal refl
each_order Greater x y z P less equal greater = greater refl

below-trans : (r s : ℕ) (xs : List LastId) → nat_cmp r s ≡ Less → IsBelow s xs → IsBelow r xs
below-trans r s [] l h = tt
below-trans r s (x ∷ xs) l h = (nat_cmp_total.trans r s x.region l h.0, below-trans r s xs l h.1)

below-put : (r : ℕ) (n : LastId) (xs : List LastId) → nat_cmp r n.region ≡ Less → IsBelow r xs → IsBelow r (put n xs)
below-put r n [] l h = (l, tt)
below-put r n (x ∷ xs) l h =
    each_order (nat_cmp n.region x.region) (n ∷ x ∷ xs) (n ∷ xs) (x ∷ put n xs) (IsBelow r)
    (λ _. (l, h)) (λ _. (l, h.1)) (λ _. (h.0, below-put r n xs l h.1))

pub rising-put : (n : LastId) (xs : List LastId) → IsRising xs → IsRising (put n xs)
rising-put n [] r = (tt, tt)
rising-put n (x ∷ xs) r =
    each_order (nat_cmp n.region x.region) (n ∷ x ∷ xs) (n ∷ xs) (x ∷ put n xs) IsRising
    (λ l. ((l, below-trans n.region x.region xs l r.0), r))
    (λ e. (subst (λ z. IsBelow z xs) (sym (exact_unsigned n.region x.region e)) r.0, r.1))
    (λ g. (below-put x.region n xs (below n.region x.region g) r.0, rising-put n xs r.1))

-- an id behind the first is of a region above it
later-above : (r : ℕ) (xs : List LastId) (k : ℕ) (x : LastId) → IsBelow r xs → slice_get xs k ≡ Some x → nat_cmp r x.region ≡ Less
later-above r [] k x h g = absurd (none-some x g)
later-above r (y ∷ ys) zero x h g = subst (λ (z : LastId). nat_cmp r z.region ≡ Less) (same_Some y x g) h.0
later-above r (y ∷ ys) (suc k) x h g = later-above r ys k x h.1 g

-- the region stands at the place
put-standing : (n : LastId) (xs : List LastId) (at : ℕ) (old : LastId) → IsRising xs → slice_get xs at ≡ Some old → old.region ≡ n.region → put n xs ≡ set xs at n
put-standing n [] at old r g e = absurd (none-some old g)
put-standing n (x ∷ xs) zero old r g e =
    let tied : nat_cmp n.region x.region ≡ Equal = subst (λ (z : LastId). nat_cmp n.region z.region ≡ Equal) (sym (same_Some x old g)) (subst (λ z. nat_cmp z old.region ≡ Equal) e (tied_itself nat_cmp_total old.region)) in
    ap (λ o. match_ordering o (n ∷ x ∷ xs) (n ∷ xs) (x ∷ put n xs)) tied
put-standing n (x ∷ xs) (suc k) old r g e =
    let low : nat_cmp x.region n.region ≡ Less = subst (λ z. nat_cmp x.region z ≡ Less) e (later-above x.region xs k old r.0 g) in
    ap (λ o. match_ordering o (n ∷ x ∷ xs) (n ∷ xs) (x ∷ put n xs)) (above x.region n.region low) ∙ ap (λ ys. x ∷ ys) (put-standing n xs k old r.1 g e)

seq-standing : (r : ℕ) (xs : List LastId) (at : ℕ) (old : LastId) → IsRising xs → slice_get xs at ≡ Some old → old.region ≡ r → seq_of r xs ≡ Some old.seq
seq-standing r [] at old s g e = absurd (none-some old g)
seq-standing r (x ∷ xs) zero old s g e =
    let same : x ≡ old = same_Some x old g in
    ap (λ b. cond b (Some x.seq) (seq_of r xs)) (eq-eqb x.region r (ap (λ (z : LastId). z.region) same ∙ e)) ∙ ap (λ (z : LastId). Some z.seq) same
seq-standing r (x ∷ xs) (suc k) old s g e =
    let low : nat_cmp x.region r ≡ Less = subst (λ z. nat_cmp x.region z ≡ Less) e (later-above x.region xs k old s.0 g) in
    ap (λ b. cond b (Some x.seq) (seq_of r xs)) (tells x.region r Less low) ∙ seq-standing r xs k old s.1 g e

-- the regions before the place are below, those from there on above
put-absent : (n : LastId) (xs : List LastId) (at : ℕ) → at ≤ length xs → ((k : ℕ) (d : LastId) → k < at → nat_cmp (get_or xs k d).region n.region ≡ Less) → ((k : ℕ) (d : LastId) → at ≤ k → k < length xs → nat_cmp (get_or xs k d).region n.region ≡ Greater) → put n xs ≡ insert xs at n
put-absent n [] zero most lower higher = refl
put-absent n [] (suc k) most lower higher = absurd (omega arith)
put-absent n (x ∷ xs) zero most lower higher =
    let high : nat_cmp x.region n.region ≡ Greater = higher 0 x (omega arith) (omega arith) in
    ap (λ o. match_ordering o (n ∷ x ∷ xs) (n ∷ xs) (x ∷ put n xs)) (below x.region n.region high)
put-absent n (x ∷ xs) (suc k) most lower higher =
    let low : nat_cmp x.region n.region ≡ Less = lower 0 x (omega arith) in
    ap (λ o. match_ordering o (n ∷ x ∷ xs) (n ∷ xs) (x ∷ put n xs)) (above x.region n.region low)
    ∙ ap (λ ys. x ∷ ys) (put-absent n xs k (omega arith) (λ j d h. lower (suc j) d (omega arith)) (λ j d g h. higher (suc j) d (omega arith) (omega arith)))

seq-absent : (r : ℕ) (xs : List LastId) → ((k : ℕ) (d : LastId) → k < length xs → ((get_or xs k d).region == r) ≡ false) → seq_of r xs ≡ None
seq-absent r [] h = refl
seq-absent r (x ∷ xs) h = ap (λ b. cond b (Some x.seq) (seq_of r xs)) (h 0 x (omega arith)) ∙ seq-absent r xs (λ k d l. h (suc k) d (omega arith))

got_there : (xs : List LastId) (at : ℕ) (old d : LastId) → slice_get xs at ≡ Some old → get_or xs at d ≡ old
got_there [] at old d g = absurd (none-some old g)
got_there (x ∷ xs) zero old d g = same_Some x old g
got_there (x ∷ xs) (suc k) old d g = got_there xs k old d g

-- what a search for the region says
pub place_stands : (n : LastId) (xs : List LastId) (r : Result ℕ ℕ) → IsRising xs → IsBinarySearchResult (λ x. nat_cmp x.region n.region) xs r
    → IfOk r (λ at. (old : LastId) → slice_get xs at ≡ Some old → put n xs ≡ slice_set xs at n)
place_stands n xs (Ok at) rising found = λ old g.
    put-standing n xs at old rising g (exact_unsigned old.region n.region (subst (λ (z : LastId). nat_cmp z.region n.region ≡ Equal) (got_there xs at old n g) (found n)))
place_stands n xs (Err at) rising found = tt

pub place_found : (n : LastId) (xs : List LastId) (r : Result ℕ ℕ) → IsRising xs → IsBinarySearchResult (λ x. nat_cmp x.region n.region) xs r
    → IfOk r (λ at. (old : LastId) → slice_get xs at ≡ Some old → seq_of n.region xs ≡ Some old.seq)
place_found n xs (Ok at) rising found = λ old g.
    seq-standing n.region xs at old rising g (exact_unsigned old.region n.region (subst (λ (z : LastId). nat_cmp z.region n.region ≡ Equal) (got_there xs at old n g) (found n)))
place_found n xs (Err at) rising found = tt

pub place_absent : (n : LastId) (xs : List LastId) (r : Result ℕ ℕ) → IsSearchInRange r (length xs) → IsNonDecreasingBy (λ x. ordering_index (nat_cmp x.region n.region)) xs → IsBinarySearchResult (λ x. nat_cmp x.region n.region) xs r
    → IfErr r (λ at. put n xs ≡ insert xs at n)
place_absent n xs (Ok at) bound rise found = tt
place_absent n xs (Err at) bound rise found =
    let parts = found rise in
    put-absent n xs at bound (λ k d h. parts.0 k d (omega arith) h) parts.1

none_at : (n : LastId) (xs : List LastId) (at : ℕ) → ((k : ℕ) (d : LastId) → k < at → nat_cmp (get_or xs k d).region n.region ≡ Less) → ((k : ℕ) (d : LastId) → at ≤ k → k < length xs → nat_cmp (get_or xs k d).region n.region ≡ Greater) → seq_of n.region xs ≡ None
none_at n xs at lower higher = seq-absent n.region xs (λ k d l.
    elim (cases_lt k at) as (λ _. ((get_or xs k d).region == n.region) ≡ false) [
      | inl h ↦ tells (get_or xs k d).region n.region Less (lower k d h)
      | inr h ↦ tells (get_or xs k d).region n.region Greater (higher k d h l)
    ])

pub place_none : (n : LastId) (xs : List LastId) (r : Result ℕ ℕ) → IsNonDecreasingBy (λ x. ordering_index (nat_cmp x.region n.region)) xs → IsBinarySearchResult (λ x. nat_cmp x.region n.region) xs r
    → IfErr r (λ at. seq_of n.region xs ≡ None)
place_none n xs (Ok at) rise found = tt
place_none n xs (Err at) rise found =
    let parts = found rise in
    none_at n xs at (λ k d h. parts.0 k d (omega arith) h) parts.1

-- the ids are put, or stay
pub rising-after : {T E : Type 0} (result : Result T E) (n : LastId) (old new : List LastId) → OnOk result (new ≡ put n old) → OnErr result (new ≡ old) → IsRising old → IsRising new
rising-after (Ok t) n old new ok err r = subst IsRising (sym ok) (rising-put n old r)
rising-after (Err e) n old new ok err r = subst IsRising (sym err) r

pub each-after : {T E : Type 0} (result : Result T E) (n : LastId) (old new : List LastId) → OnOk result (new ≡ put n old) → OnOk result ((r : ℕ) → seq_of r new ≡ cond (n.region == r) (Some n.seq) (seq_of r old))
each-after (Ok t) n old new ok = λ r. ap (seq_of r) ok ∙ seq-put r n old
each-after (Err e) n old new ok = tt
