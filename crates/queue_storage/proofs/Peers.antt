-- The ids of one peer change, and those of the others stay.
use Rattle.std.proofs.Common.{ℕ, zero, suc, ◌+◌, ◌<◌, ◌≡◌, ◌==◌, Bool, true, false, cond, List, [], ◌∷◌, map, set, length, slice_get, Option, Some, None, option_map, refl, ap, sym, ◌∙◌, subst, arith, eqb-true, eq-eqb, true≢false}
use Rattle.std.specs.List.{AllByRecursion}
use Rattle.std.specs.Option.{unwrap_or}
use Rattle.std.proofs.lemmas.Option.{none-some, same_Some}
use Rattle.last_ids.specs.Ids.{last_of, IsRising}
use Rattle.last_ids.specs.declared.ids.LastId.{LastId}
use Rattle.queue_storage.specs.Ids.{counting, ids_of, last_pushed, pushed, ArePushed, AreDropped, AreKnown, AreOfPeers}
use Rattle.queue_storage.proofs.Counting.{counted_last}

-- ---- lists

all_set : {X : Type 0} (P : X → Type 0) (xs : List X) (k : ℕ) (y : X) → AllByRecursion P xs → P y → AllByRecursion P (set xs k y)
all_set P [] k y all h = tt
all_set P (x ∷ xs) zero y all h = (h, all.1)
all_set P (x ∷ xs) (suc k) y all h = (all.0, all_set P xs k y all.1 h)

pub all_at : {X : Type 0} (P : X → Type 0) (xs : List X) (k : ℕ) (x : X) → AllByRecursion P xs → slice_get xs k ≡ Some x → P x
all_at P [] k x all h = absurd (none-some x h)
all_at P (y ∷ xs) zero x all h = subst P (same_Some y x h) all.0
all_at P (y ∷ xs) (suc k) x all h = all_at P xs k x all.1 h

length_set : {X : Type 0} (xs : List X) (k : ℕ) (y : X) → length (set xs k y) ≡ length xs
length_set [] k y = refl
length_set (x ∷ xs) zero y = refl
length_set (x ∷ xs) (suc k) y = ap suc (length_set xs k y)

map_set : {X Y : Type 0} (f : X → Y) (xs : List X) (k : ℕ) (y : X) → map f (set xs k y) ≡ set (map f xs) k (f y)
map_set f [] k y = refl
map_set f (x ∷ xs) zero y = refl
map_set f (x ∷ xs) (suc k) y = ap (λ ys. f x ∷ ys) (map_set f xs k y)

-- an item that is as it was to f
map_stays : {X Y : Type 0} (f : X → Y) (xs : List X) (k : ℕ) (x y : X) → slice_get xs k ≡ Some x → f y ≡ f x → map f (set xs k y) ≡ map f xs
map_stays f [] k x y h e = refl
map_stays f (z ∷ xs) zero x y h e = ap (λ w. w ∷ map f xs) (e ∙ sym (ap f (same_Some z x h)))
map_stays f (z ∷ xs) (suc k) x y h e = ap (λ ys. f z ∷ ys) (map_stays f xs k x y h e)

-- ---- the ids of four peers

pub peers_set : (ids : List (List LastId)) (k : ℕ) (y : List LastId) → AreOfPeers ids → IsRising y → AreOfPeers (set ids k y)
peers_set ids k y peers rising = record { four = length_set ids k y ∙ peers.four; rising = all_set IsRising ids k y peers.rising rising }

pub rising_at : (ids : List (List LastId)) (k : ℕ) (x : List LastId) → AreOfPeers ids → slice_get ids k ≡ Some x → IsRising x
rising_at ids k x peers at = all_at IsRising ids k x peers.rising at

pub counting_stays : (ids : List (List LastId)) (k : ℕ) (x y : List LastId) → slice_get ids k ≡ Some x → counting y ≡ counting x → map counting (set ids k y) ≡ map counting ids
counting_stays ids k x y at same = map_stays counting ids k x y at same

-- ---- the ids of a peer

abbrev or_none : Option (List LastId) → List LastId
or_none o = unwrap_or o []

ids_at : (k : ℕ) (ids : List (List LastId)) (x : List LastId) → slice_get ids k ≡ Some x → ids_of (suc k) ids ≡ x
ids_at k ids x at = ap or_none at

pub peers_at : (p k : ℕ) (ids : List (List LastId)) (x : List LastId) → k + 1 ≡ p → slice_get ids k ≡ Some x → x ≡ ids_of p ids
peers_at p k ids x place at = sym (ids_at k ids x at) ∙ (let next : suc k ≡ p = omega (arith, place) in ap (λ n. ids_of n ids) next)

here : {X : Type 0} (xs : List X) (k : ℕ) (x y : X) → slice_get xs k ≡ Some x → slice_get (set xs k y) k ≡ Some y
here [] k x y h = absurd (none-some x h)
here (z ∷ xs) zero x y h = refl
here (z ∷ xs) (suc k) x y h = here xs k x y h

pub ids_here : (p k : ℕ) (ids : List (List LastId)) (x y : List LastId) → k + 1 ≡ p → slice_get ids k ≡ Some x → y ≡ ids_of p (set ids k y)
ids_here p k ids x y place at = peers_at p k (set ids k y) y place (here ids k x y at)

aside : {X : Type 0} (xs : List X) (k j : ℕ) (y : X) → (j ≡ k → ⊥) → slice_get (set xs k y) j ≡ slice_get xs j
aside [] k j y h = refl
aside (z ∷ xs) zero zero y h = absurd (h refl)
aside (z ∷ xs) zero (suc j) y h = refl
aside (z ∷ xs) (suc k) zero y h = refl
aside (z ∷ xs) (suc k) (suc j) y h = aside xs k j y (λ e. h (ap suc e))

ids_aside : (q k : ℕ) (ids : List (List LastId)) (y : List LastId) → (q ≡ suc k → ⊥) → ids_of q (set ids k y) ≡ ids_of q ids
ids_aside zero k ids y apart = refl
ids_aside (suc j) k ids y apart = ap or_none (aside ids k j y (λ e. apart (ap suc e)))

-- ---- without those of 0

counting_none : (o : Option (List LastId)) → or_none (option_map counting o) ≡ counting (or_none o)
counting_none None = refl
counting_none (Some x) = refl

get_counting : (ids : List (List LastId)) (j : ℕ) → slice_get (map counting ids) j ≡ option_map counting (slice_get ids j)
get_counting [] j = refl
get_counting (x ∷ ids) zero = refl
get_counting (x ∷ ids) (suc j) = get_counting ids j

pub ids_counting : (q : ℕ) (ids : List (List LastId)) → ids_of q (map counting ids) ≡ counting (ids_of q ids)
ids_counting zero ids = refl
ids_counting (suc j) ids = ap or_none (get_counting ids j) ∙ counting_none (slice_get ids j)

rising_of : (q : ℕ) (ids : List (List LastId)) → AreOfPeers ids → IsRising (ids_of q ids)
rising_of zero ids peers = tt
rising_of (suc j) ids peers = got (slice_get ids j) refl
  where
    got : (o : Option (List LastId)) → slice_get ids j ≡ o → IsRising (or_none o)
    got None e = tt
    got (Some x) e = rising_at ids j x peers e

pub pushed_counting : (q r : ℕ) (ids : List (List LastId)) → AreOfPeers ids → last_pushed q r (map counting ids) ≡ last_of r (ids_of q ids)
pushed_counting q r ids peers = ap (last_of r) (ids_counting q ids) ∙ counted_last r (ids_of q ids) (rising_of q ids peers)

-- ---- what the ids of a peer become

set_as : (p k : ℕ) (ids : List (List LastId)) (x y : List LastId) (f : ℕ → ℕ → ℕ) → k + 1 ≡ p → AreOfPeers ids → IsRising y → slice_get ids k ≡ Some x → ((r : ℕ) → last_of r y ≡ f r (last_of r x))
    → (q r : ℕ) → last_pushed q r (map counting (set ids k y)) ≡ cond (q == p) (f r (last_pushed q r (map counting ids))) (last_pushed q r (map counting ids))
set_as p k ids x y f place peers rising at is q r =
    let old = pushed_counting q r ids peers in
    let new = pushed_counting q r (set ids k y) (peers_set ids k y peers rising) in
    (elim (q == p) as (λ (t : Bool). (q == p) ≡ t → last_pushed q r (map counting (set ids k y)) ≡ cond t (f r (last_pushed q r (map counting ids))) (last_pushed q r (map counting ids))) [
      | true ↦ λ t.
          let same : q ≡ p = eqb-true q p t in
          let before : x ≡ ids_of q ids = peers_at p k ids x place at ∙ ap (λ n. ids_of n ids) (sym same) in
          let after : y ≡ ids_of q (set ids k y) = ids_here p k ids x y place at ∙ ap (λ n. ids_of n (set ids k y)) (sym same) in
          new ∙ (ap (last_of r) (sym after) ∙ (is r ∙ ap (f r) (ap (last_of r) before ∙ sym old)))
      | false ↦ λ t.
          let apart : q ≡ suc k → ⊥ = λ e. true≢false (sym (eq-eqb q p (omega (arith, e, place))) ∙ t) in
          new ∙ (ap (last_of r) (ids_aside q k ids y apart) ∙ sym old)
    ]) refl

pub ids_set : (p k : ℕ) (ids : List (List LastId)) (x y xs : List LastId) → k + 1 ≡ p → AreOfPeers ids → IsRising y → slice_get ids k ≡ Some x → ((r : ℕ) → last_of r y ≡ pushed r xs (last_of r x))
    → ArePushed p xs (map counting ids) (map counting (set ids k y))
ids_set p k ids x y xs place peers rising at is = set_as p k ids x y (λ r n. pushed r xs n) place peers rising at is

pub ids_gone : (p k : ℕ) (ids : List (List LastId)) (x : List LastId) → k + 1 ≡ p → AreOfPeers ids → slice_get ids k ≡ Some x → AreDropped p (map counting ids) (map counting (set ids k []))
ids_gone p k ids x place peers at = set_as p k ids x [] (λ r n. 0) place peers tt at (λ r. refl)
