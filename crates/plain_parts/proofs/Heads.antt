-- What is found first in a list is the head of what is left of it when it is filtered.
use Rattle.std.proofs.Common.{◌≡◌, Bool, true, false, cond, List, [], ◌∷◌, Some, None, find, filter, refl}
use Rattle.rep_model.specs.declared.machine.Commit.{Commit}

pub filter-found : (p : Commit → Bool) (xs : List Commit) (y : Commit) → find p xs ≡ Some y → (rest : List Commit) × (filter p xs ≡ y ∷ rest)
filter-found p [] y h = absurd (cc)
filter-found p (x ∷ xs) y h =
    (elim (p x) as (λ (t : Bool). cond t (Some x) (find p xs) ≡ Some y → (rest : List Commit) × (cond t (x ∷ filter p xs) (filter p xs) ≡ y ∷ rest)) [
      | true ↦ λ e. (filter p xs, cc)
      | false ↦ λ e. filter-found p xs y e
    ]) h

pub filter-absent : (p : Commit → Bool) (xs : List Commit) → find p xs ≡ None → filter p xs ≡ []
filter-absent p [] h = refl
filter-absent p (x ∷ xs) h =
    (elim (p x) as (λ (t : Bool). cond t (Some x) (find p xs) ≡ None → cond t (x ∷ filter p xs) (filter p xs) ≡ []) [
      | true ↦ λ e. absurd (cc)
      | false ↦ λ e. filter-absent p xs e
    ]) h
