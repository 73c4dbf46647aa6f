-- Items by their places: after a change, behind another list, and as the first that passes a test.
use Rattle.std.proofs.Common.{◌≡◌, ℕ, ◌+◌, ◌<◌, ◌⊎◌, inl, inr, ⊎_elim, Bool, true, false, not, cond, List, [], ◌∷◌, ◌++◌, length, Option, Some, None, refl, ap, sym, ◌∙◌, slice_get, set, arith, suc, zero, find, position, map}
use Rattle.std.specs.List.{position_or_len}
use Rattle.std.specs.Option.{option_map}
use Rattle.std.specs.Prelude.{nat_lt, is_some}
use Rattle.region_meta.specs.Changes.{replace}
use Rattle.std.proofs.lemmas.Bool.Decides.{nat_tests}
use Rattle.std.proofs.lemmas.Option.{none-some, same_Some}

pub set-other : {X : Type 0} (xs : List X) (p n : ℕ) (y : X) → (n ≡ p → ⊥) → slice_get (set xs p y) n ≡ slice_get xs n
set-other [] p n y apart = refl
set-other (x ∷ xs) zero zero y apart = absurd (apart refl)
set-other (x ∷ xs) zero (suc n) y apart = refl
set-other (x ∷ xs) (suc p) zero y apart = refl
set-other (x ∷ xs) (suc p) (suc n) y apart = set-other xs p n y (λ e. apart (ap suc e))

pub set-here : {X : Type 0} (xs : List X) (p : ℕ) (y : X) → p < length xs → slice_get (set xs p y) p ≡ Some y
set-here [] p y within = absurd (omega arith)
set-here (x ∷ xs) zero y within = refl
set-here (x ∷ xs) (suc p) y within = set-here xs p y (omega arith)

pub append-left : {X : Type 0} (xs ys : List X) (n : ℕ) → n < length xs → slice_get (xs ++ ys) n ≡ slice_get xs n
append-left [] ys n within = absurd (omega arith)
append-left (x ∷ xs) ys zero within = refl
append-left (x ∷ xs) ys (suc n) within = append-left xs ys n (omega arith)

pub append-right : {X : Type 0} (xs ys : List X) (n k : ℕ) → n ≡ length xs + k → slice_get (xs ++ ys) n ≡ slice_get ys k
append-right [] ys n k e = let same : n ≡ k = omega arith in ap (slice_get ys) same
append-right (x ∷ xs) ys zero k e = absurd (omega arith)
append-right (x ∷ xs) ys (suc n) k e = append-right xs ys n k (omega arith)

-- what stands in a list behind another
pub append-cases : {X : Type 0} (xs ys : List X) (n : ℕ) (s : X) → slice_get (xs ++ ys) n ≡ Some s
    → ((n < length xs) × (slice_get xs n ≡ Some s)) ⊎ ((k : ℕ) × (n ≡ length xs + k) × (slice_get ys k ≡ Some s))
append-cases [] ys n s e = inr (n, (omega arith), e)
append-cases (x ∷ xs) ys zero s e = inl ((omega arith), e)
append-cases (x ∷ xs) ys (suc n) s e =
    ⊎_elim
    (λ old. let h : n < length xs = old.0 in inl ((omega arith), old.1))
    (λ new. let h : n ≡ length xs + new.0 = new.1 in inr (new.0, (omega arith), new.2)) (append-cases xs ys n s e)

-- the one item that passes is the first
pub find-only : {X : Type 0} (p : X → Bool) (xs : List X) (i : ℕ) (x : X) → slice_get xs i ≡ Some x → p x ≡ true
    → ((n : ℕ) (y : X) → slice_get xs n ≡ Some y → p y ≡ true → n ≡ i) → find p xs ≡ Some x
find-only p [] i x e passes only = absurd (none-some x e)
find-only p (y ∷ ys) zero x e passes only =
    let same : y ≡ x = same_Some y x e in
    ap (λ t. cond t (Some y) (find p ys)) (ap p same ∙ passes) ∙ ap Some same
find-only p (y ∷ ys) (suc i) x e passes only =
    (elim (p y) as (λ (t : Bool). p y ≡ t → cond t (Some y) (find p ys) ≡ Some x) [
      | true ↦ λ t. let bad : 0 ≡ suc i = only 0 y refl t in absurd (omega arith)
      | false ↦ λ t. find-only p ys i x e passes (λ n z at q. let up : suc n ≡ suc i = only (suc n) z at q in omega arith)
    ]) refl

-- and gives way as the first
pub replace-only : {X : Type 0} (p : X → Bool) (y : X) (xs : List X) (i : ℕ) (x : X) → slice_get xs i ≡ Some x → p x ≡ true
    → ((n : ℕ) (z : X) → slice_get xs n ≡ Some z → p z ≡ true → n ≡ i) → replace p y xs ≡ set xs i y
replace-only p y [] i x e passes only = absurd (none-some x e)
replace-only p y (z ∷ zs) zero x e passes only =
    let same : z ≡ x = same_Some z x e in
    ap (λ t. cond t (y ∷ zs) (z ∷ replace p y zs)) (ap p same ∙ passes)
replace-only p y (z ∷ zs) (suc i) x e passes only =
    (elim (p z) as (λ (t : Bool). p z ≡ t → cond t (y ∷ zs) (z ∷ replace p y zs) ≡ z ∷ set zs i y) [
      | true ↦ λ t. let bad : 0 ≡ suc i = only 0 z refl t in absurd (omega arith)
      | false ↦ λ t. ap (λ es. z ∷ es) (replace-only p y zs i x e passes (λ n w at q. let up : suc n ≡ suc i = only (suc n) w at q in omega arith))
    ]) refl

pub find-none : {X : Type 0} (p : X → Bool) (xs : List X) → ((n : ℕ) (y : X) → slice_get xs n ≡ Some y → p y ≡ true → ⊥) → find p xs ≡ None
find-none p [] never = refl
find-none p (y ∷ ys) never =
    (elim (p y) as (λ (t : Bool). p y ≡ t → cond t (Some y) (find p ys) ≡ None) [
      | true ↦ λ t. absurd (never 0 y refl t)
      | false ↦ λ t. find-none p ys (λ n z at q. never (suc n) z at q)
    ]) refl

-- the place of the first that passes, item by item
pub position-cons : {X : Type 0} (p : X → Bool) (x : X) (xs : List X) → position p (x ∷ xs) ≡ cond (p x) (Some 0) (option_map suc (position p xs))
position-cons p x xs =
    elim (p x) as (λ (t : Bool). cond (nat_lt (cond (not t) (1 + position_or_len p xs) 0) (length (x ∷ xs))) (Some (cond (not t) (1 + position_or_len p xs) 0)) None
    ≡ cond t (Some 0) (option_map suc (cond (nat_lt (position_or_len p xs) (length xs)) (Some (position_or_len p xs)) None))) [
      | true ↦ grind (arith, nat_tests)
      | false ↦
          (elim (nat_lt (position_or_len p xs) (length xs)) as (λ (t : Bool). nat_lt (position_or_len p xs) (length xs) ≡ t
          → cond (nat_lt (1 + position_or_len p xs) (length (x ∷ xs))) (Some (1 + position_or_len p xs)) None ≡ option_map suc (cond t (Some (position_or_len p xs)) None)) [
            | true ↦ λ t. grind (arith, nat_tests)
            | false ↦ λ t. grind (arith, nat_tests)
          ]) refl
    ]

-- an item stands there, and passes
abbrev pub Passes : {X : Type 0} → (X → Bool) → List X → ℕ → Type 0
Passes {X} p xs i = (x : X) × (slice_get xs i ≡ Some x) × (p x ≡ true)

pub position-at : {X : Type 0} (p : X → Bool) (xs : List X) (i : ℕ) → position p xs ≡ Some i → Passes p xs i
position-at p [] i e = absurd (none-some i e)
position-at p (x ∷ xs) i e =
    (elim (p x) as (λ (t : Bool). p x ≡ t → cond t (Some 0) (option_map suc (position p xs)) ≡ Some i → Passes p (x ∷ xs) i) [
      | true ↦ λ t g. (x, ap (slice_get (x ∷ xs)) (sym (same_Some 0 i g)), t)
      | false ↦ λ t g. step (position p xs) (position-at p xs) refl g
    ]) refl (sym (position-cons p x xs) ∙ e)
  where
    step : (o : Option ℕ) → ((j : ℕ) → position p xs ≡ Some j → Passes p xs j) → position p xs ≡ o → option_map suc o ≡ Some i → Passes p (x ∷ xs) i
    step None later h g = absurd (none-some i g)
    step (Some j) later h g =
        let there = later j h in
        (there.0, ap (slice_get (x ∷ xs)) (sym (same_Some (suc j) i g)) ∙ there.1, there.2)

pub position-found : {X : Type 0} (p : X → Bool) (xs : List X) → is_some (find p xs) ≡ is_some (position p xs)
position-found p [] = refl
position-found p (x ∷ xs) = (elim (p x) as (λ (t : Bool). is_some (cond t (Some x) (find p xs)) ≡ is_some (cond t (Some 0) (option_map suc (position p xs)))) [
  | true ↦ refl
  | false ↦ position-found p xs ∙ mapped (position p xs)
]) ∙ sym (ap is_some (position-cons p x xs))
  where
    mapped : (o : Option ℕ) → is_some o ≡ is_some (option_map suc o)
    mapped None = refl
    mapped (Some n) = refl

-- a new item goes behind: what was found is found
pub position-kept : {X : Type 0} (p : X → Bool) (xs : List X) (y : X) (i : ℕ) → position p xs ≡ Some i → position p (xs ++ y ∷ []) ≡ Some i
position-kept p [] y i e = absurd (none-some i e)
position-kept p (x ∷ xs) y i e =
    position-cons p x (xs ++ y ∷ []) ∙
    (elim (p x) as (λ (t : Bool). cond t (Some 0) (option_map suc (position p xs)) ≡ Some i → cond t (Some 0) (option_map suc (position p (xs ++ y ∷ []))) ≡ Some i) [
      | true ↦ λ g. g
      | false ↦ λ g. step (position p xs) (position-kept p xs y) refl g
    ]) (sym (position-cons p x xs) ∙ e)
  where
    step : (o : Option ℕ) → ((j : ℕ) → position p xs ≡ Some j → position p (xs ++ y ∷ []) ≡ Some j) → position p xs ≡ o → option_map suc o ≡ Some i → option_map suc (position p (xs ++ y ∷ [])) ≡ Some i
    step None later h g = absurd (none-some i g)
    step (Some j) later h g = ap (option_map suc) (later j h) ∙ g

-- what wasn't found is the new item, if it passes
pub position-new : {X : Type 0} (p : X → Bool) (xs : List X) (y : X) → position p xs ≡ None → position p (xs ++ y ∷ []) ≡ cond (p y) (Some (length xs)) None
position-new p [] y e = position-cons p y []
position-new p (x ∷ xs) y e =
    position-cons p x (xs ++ y ∷ []) ∙
    (elim (p x) as (λ (t : Bool). cond t (Some 0) (option_map suc (position p xs)) ≡ None → cond t (Some 0) (option_map suc (position p (xs ++ y ∷ []))) ≡ cond (p y) (Some (length (x ∷ xs))) None) [
      | true ↦ λ g. absurd (none-some 0 (sym g))
      | false ↦ λ g. step (position p xs) (position-new p xs y) refl g
    ]) (sym (position-cons p x xs) ∙ e)
  where
    at_end : (t : Bool) → option_map suc (cond t (Some (length xs)) None) ≡ cond t (Some (length (x ∷ xs))) None
    at_end true = refl
    at_end false = refl

    step : (o : Option ℕ) → (position p xs ≡ None → position p (xs ++ y ∷ []) ≡ cond (p y) (Some (length xs)) None) → position p xs ≡ o → option_map suc o ≡ None → option_map suc (position p (xs ++ y ∷ [])) ≡ cond (p y) (Some (length (x ∷ xs))) None
    step None later h g = ap (option_map suc) (later h) ∙ at_end (p y)
    step (Some j) later h g = absurd (none-some (suc j) (sym g))

-- the place among what f makes of the items
pub position-map : {X Y : Type 0} (f : X → Y) (p : Y → Bool) (q : X → Bool) → ((x : X) → p (f x) ≡ q x) → (xs : List X) → position p (map f xs) ≡ position q xs
position-map f p q same [] = refl
position-map f p q same (x ∷ xs) =
    position-cons p (f x) (map f xs) ∙ (ap (λ t. cond t (Some 0) (option_map suc (position p (map f xs)))) (same x)
    ∙ (ap (λ o. cond (q x) (Some 0) (option_map suc o)) (position-map f p q same xs) ∙ sym (position-cons q x xs)))
