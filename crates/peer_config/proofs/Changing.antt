-- A peer that is found by its number and changed.
use Rattle.std.proofs.Common.{◌≡◌, ℕ, ◌+◌, suc, Bool, true, false, not, cond, List, [], ◌∷◌, length, Option, Some, None, refl, ap, sym, ◌∙◌, subst, slice_get, set, arith, position}
use Rattle.std.specs.List.{position_or_len}
use Rattle.std.specs.Option.{option_map}
use Rattle.std.specs.Prelude.{nat_lt}
use Rattle.std.proofs.lemmas.Option.{none-some, same_Some}
use Rattle.std.proofs.lemmas.Bool.Decides.{nat_tests}
use Rattle.peer_config.specs.declared.peer.Peer.{Peer}
use Rattle.peer_config.specs.Peers.{is_peer, changed}

position-cons : {X : Type 0} (p : X → Bool) (x : X) (xs : List X) → position p (x ∷ xs) ≡ cond (p x) (Some 0) (option_map suc (position p xs))
position-cons p x xs =
    elim (p x) as (λ (t : Bool). cond (nat_lt (cond (not t) (1 + position_or_len p xs) 0) (length (x ∷ xs))) (Some (cond (not t) (1 + position_or_len p xs) 0)) None
    ≡ cond t (Some 0) (option_map suc (cond (nat_lt (position_or_len p xs) (length xs)) (Some (position_or_len p xs)) None))) [
      | true ↦ grind (arith, nat_tests)
      | false ↦
          (elim (nat_lt (position_or_len p xs) (length xs)) as (λ (t : Bool). nat_lt (position_or_len p xs) (length xs) ≡ t
          → cond (nat_lt (1 + position_or_len p xs) (length (x ∷ xs))) (Some (1 + position_or_len p xs)) None ≡ option_map suc (cond t (Some (position_or_len p xs)) None)) [
            | true ↦ λ t. grind (arith, nat_tests)
            | false ↦ λ t. grind (arith, nat_tests)
          ]) refl
    ]

pub changed-at : (p : ℕ) (f : Peer → Peer) (xs : List Peer) (at : ℕ) (x : Peer) → position (is_peer p) xs ≡ Some at → slice_get xs at ≡ Some x → set xs at (f x) ≡ changed p f xs
changed-at p f [] at x e g = absurd (none-some x g)
changed-at p f (y ∷ ys) at x e g =
    (elim (is_peer p y) as (λ (t : Bool). cond t (Some 0) (option_map suc (position (is_peer p) ys)) ≡ Some at → set (y ∷ ys) at (f x) ≡ cond t (f y ∷ ys) (y ∷ changed p f ys)) [
      | true ↦ λ h. here h
      | false ↦ λ h. later (position (is_peer p) ys) (λ j q i. changed-at p f ys j x q i) refl h
    ]) (sym (position-cons (is_peer p) y ys) ∙ e)
  where
    here : Some 0 ≡ Some at → set (y ∷ ys) at (f x) ≡ f y ∷ ys
    here h = subst (λ k. slice_get (y ∷ ys) k ≡ Some x → set (y ∷ ys) k (f x) ≡ f y ∷ ys) (same_Some 0 at h) (λ i. ap (λ (z : Peer). f z ∷ ys) (sym (same_Some y x i))) g

    later : (o : Option ℕ) → ((j : ℕ) → position (is_peer p) ys ≡ Some j → slice_get ys j ≡ Some x → set ys j (f x) ≡ changed p f ys) → position (is_peer p) ys ≡ o → option_map suc o ≡ Some at → set (y ∷ ys) at (f x) ≡ y ∷ changed p f ys
    later None rest q h = absurd (none-some at h)
    later (Some j) rest q h = subst (λ k. slice_get (y ∷ ys) k ≡ Some x → set (y ∷ ys) k (f x) ≡ y ∷ changed p f ys) (same_Some (suc j) at h) (λ i. ap (λ zs. y ∷ zs) (rest j q i)) g

pub changed-none : (p : ℕ) (f : Peer → Peer) (xs : List Peer) → position (is_peer p) xs ≡ None → xs ≡ changed p f xs
changed-none p f [] e = refl
changed-none p f (y ∷ ys) e =
    (elim (is_peer p y) as (λ (t : Bool). cond t (Some 0) (option_map suc (position (is_peer p) ys)) ≡ None → y ∷ ys ≡ cond t (f y ∷ ys) (y ∷ changed p f ys)) [
      | true ↦ λ h. absurd (none-some 0 (sym h))
      | false ↦ λ h. later (position (is_peer p) ys) (changed-none p f ys) refl h
    ]) (sym (position-cons (is_peer p) y ys) ∙ e)
  where
    later : (o : Option ℕ) → (position (is_peer p) ys ≡ None → ys ≡ changed p f ys) → position (is_peer p) ys ≡ o → option_map suc o ≡ None → y ∷ ys ≡ y ∷ changed p f ys
    later None rest q h = ap (λ zs. y ∷ zs) (rest q)
    later (Some j) rest q h = absurd (none-some (suc j) (sym h))
