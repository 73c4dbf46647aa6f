-- Items that give way to others, by their place.
use Rattle.std.proofs.Common.{◌≡◌, ℕ, ◌+◌, ◌<◌, ◌≤◌, Bool, true, false, not, cond, List, [], ◌∷◌, ◌++◌, length, suc, take, drop, Some, None, refl, ap, sym, ◌∙◌, set, arith, position}
use Rattle.std.specs.List.{position_or_len, insert, remove}
use Rattle.std.specs.Prelude.{nat_lt}
use Rattle.std.proofs.lemmas.Grind.{common_steps}
use Rattle.std.proofs.lemmas.Bool.Decides.{nat_tests}
use Rattle.region_meta.specs.Orders.{spliced}

take-next : {X : Type 0} (x : X) (xs : List X) (k : ℕ) → take (1 + k) (x ∷ xs) ≡ x ∷ take k xs
take-next x xs k = grind (arith, common_steps)

drop-next : {X : Type 0} (x : X) (xs : List X) (k : ℕ) → drop (1 + (1 + k)) (x ∷ xs) ≡ drop (1 + k) xs
drop-next x xs k = grind (arith, common_steps)

spliced-place : {X : Type 0} (p : X → Bool) (ys xs : List X) → position_or_len p xs < length xs → spliced p ys xs ≡ take (position_or_len p xs) xs ++ (ys ++ drop (1 + position_or_len p xs) xs)
spliced-place p ys [] h = absurd (omega arith)
spliced-place p ys (x ∷ xs) h =
    (elim (p x) as (λ (t : Bool). cond (not t) (1 + position_or_len p xs) 0 < length (x ∷ xs)
    → cond t (ys ++ xs) (x ∷ spliced p ys xs) ≡ take (cond (not t) (1 + position_or_len p xs) 0) (x ∷ xs) ++ (ys ++ drop (1 + cond (not t) (1 + position_or_len p xs) 0) (x ∷ xs))) [
      | true ↦ λ _. refl
      | false ↦ λ less. rw (take-next x xs (position_or_len p xs), drop-next x xs (position_or_len p xs)) (ap (λ es. x ∷ es) (spliced-place p ys xs (omega arith)))
    ]) h

at_place : (first most at : ℕ) → cond (nat_lt first most) (Some first) None ≡ Some at → (at ≡ first) × (first < most)
at_place first most at =
    elim (nat_lt first most) as (λ (t : Bool). nat_lt first most ≡ t → cond t (Some first) None ≡ Some at → (at ≡ first) × (first < most)) [
      | true ↦ λ t e. (cc, grind (arith, nat_tests))
      | false ↦ λ t e. absurd (cc)
    ] refl

pub spliced-at : {X : Type 0} (p : X → Bool) (ys xs : List X) (at : ℕ) → position p xs ≡ Some at → spliced p ys xs ≡ take at xs ++ (ys ++ drop (1 + at) xs)
spliced-at p ys xs at h =
    let is = at_place (position_or_len p xs) (length xs) at h in
    spliced-place p ys xs is.1 ∙ ap (λ k. take k xs ++ (ys ++ drop (1 + k) xs)) (sym is.0)

none_passes : (first most : ℕ) → cond (nat_lt first most) (Some first) None ≡ None → most ≤ first
none_passes first most =
    elim (nat_lt first most) as (λ (t : Bool). nat_lt first most ≡ t → cond t (Some first) None ≡ None → most ≤ first) [
      | true ↦ λ t e. absurd (cc)
      | false ↦ λ t e. grind (arith, nat_tests)
    ] refl

spliced-past : {X : Type 0} (p : X → Bool) (ys xs : List X) → length xs ≤ position_or_len p xs → spliced p ys xs ≡ xs
spliced-past p ys [] h = refl
spliced-past p ys (x ∷ xs) h =
    (elim (p x) as (λ (t : Bool). length (x ∷ xs) ≤ cond (not t) (1 + position_or_len p xs) 0 → cond t (ys ++ xs) (x ∷ spliced p ys xs) ≡ x ∷ xs) [
      | true ↦ λ most. absurd (omega arith)
      | false ↦ λ most. ap (λ es. x ∷ es) (spliced-past p ys xs (omega arith))
    ]) h

pub spliced-absent : {X : Type 0} (p : X → Bool) (ys xs : List X) → position p xs ≡ None → spliced p ys xs ≡ xs
spliced-absent p ys xs h = spliced-past p ys xs (none_passes (position_or_len p xs) (length xs) h)

set-next : {X : Type 0} (x y : X) (xs : List X) (k : ℕ) → set (x ∷ xs) (1 + k) y ≡ x ∷ set xs k y
set-next x y xs k = grind (arith, common_steps)

set-place : {X : Type 0} (p : X → Bool) (y : X) (xs : List X) → position_or_len p xs < length xs → set xs (position_or_len p xs) y ≡ spliced p (y ∷ []) xs
set-place p y [] h = absurd (omega arith)
set-place p y (x ∷ xs) h =
    (elim (p x) as (λ (t : Bool). cond (not t) (1 + position_or_len p xs) 0 < length (x ∷ xs) → set (x ∷ xs) (cond (not t) (1 + position_or_len p xs) 0) y ≡ cond t ((y ∷ []) ++ xs) (x ∷ spliced p (y ∷ []) xs)) [
      | true ↦ λ _. refl
      | false ↦ λ less. set-next x y xs (position_or_len p xs) ∙ ap (λ es. x ∷ es) (set-place p y xs (omega arith))
    ]) h

pub set-spliced : {X : Type 0} (p : X → Bool) (xs : List X) (at : ℕ) (y : X) → position p xs ≡ Some at → set xs at y ≡ spliced p (y ∷ []) xs
set-spliced p xs at y h =
    let is = at_place (position_or_len p xs) (length xs) at h in
    ap (λ k. set xs k y) is.0 ∙ set-place p y xs is.1

insert-next : {X : Type 0} (x y : X) (xs : List X) (k : ℕ) → insert (x ∷ xs) (1 + k) y ≡ x ∷ insert xs k y
insert-next x y xs k = grind (arith, common_steps)

two-place : {X : Type 0} (p : X → Bool) (y z : X) (xs : List X) → position_or_len p xs < length xs → set (insert xs (position_or_len p xs) y) (1 + position_or_len p xs) z ≡ spliced p (y ∷ z ∷ []) xs
two-place p y z [] h = absurd (omega arith)
two-place p y z (x ∷ xs) h =
    (elim (p x) as (λ (t : Bool). cond (not t) (1 + position_or_len p xs) 0 < length (x ∷ xs)
    → set (insert (x ∷ xs) (cond (not t) (1 + position_or_len p xs) 0) y) (1 + cond (not t) (1 + position_or_len p xs) 0) z ≡ cond t ((y ∷ z ∷ []) ++ xs) (x ∷ spliced p (y ∷ z ∷ []) xs)) [
      | true ↦ λ _. refl
      | false ↦ λ less.
          ap (λ es. set es (1 + (1 + position_or_len p xs)) z) (insert-next x y xs (position_or_len p xs))
          ∙ (set-next x z (insert xs (position_or_len p xs) y) (1 + position_or_len p xs)
          ∙ ap (λ es. x ∷ es) (two-place p y z xs (omega arith)))
    ]) h

pub two-spliced : {X : Type 0} (p : X → Bool) (xs : List X) (at : ℕ) (y z : X) → position p xs ≡ Some at → set (insert xs at y) (at + 1) z ≡ spliced p (y ∷ z ∷ []) xs
two-spliced p xs at y z h =
    let is = at_place (position_or_len p xs) (length xs) at h in
    let next : at + 1 ≡ 1 + at = omega arith in
    rw (next, is.0) (two-place p y z xs is.1)

pub removed : {X : Type 0} (p : X → Bool) (xs : List X) (at : ℕ) → position p xs ≡ Some at → remove xs at ≡ spliced p [] xs
removed p xs at h =
    let next : suc at ≡ 1 + at = omega arith in
    rw (spliced-at p [] xs at h) (ap (λ k. take at xs ++ drop k xs) next)
