-- Lists that begin one another, and the views of a table.
use Rattle.std.proofs.Common.{◌≡◌, ◌≢◌, ◌≤◌, ℕ, List, [], ◌∷◌, ◌++◌, length, set, sym, refl, ap, ◌∙◌, subst, ⊎_elim, append_assoc, length-append, arith}
use mathlib.Core.Option.{some}
use mathlib.Core.List.{IsPrefix, append-nil}
use lib.ListN.{get_elem?}
use Rattle.atomic_table.proofs.Lists.{at_set}
use Rattle.log_tail.specs.declared.rule.Knows.{Knows}

abbrev pub Each : (ℕ → Knows → Type 0) → List Knows → Type 0
Each F views = (seat : ℕ) (v : Knows) → get_elem? views seat ≡ some v → F seat v

pub each_set : (F : ℕ → Knows → Type 0) (views : List Knows) (seat : ℕ) (w : Knows) → F seat w → ((j : ℕ) (u : Knows) → j ≢ seat → get_elem? views j ≡ some u → F j u) → Each F (set views seat w)
each_set F views seat w mine others j u e = ⊎_elim (λ (x : (j ≡ seat) × (w ≡ u)). subst (λ (y : ℕ × Knows). F y.0 y.1) (λ i. (sym x.0 i, x.1 i)) mine)
    (λ (x : (j ≢ seat) × (get_elem? views j ≡ some u)). others j u x.0 x.1) (at_set views seat j w u e)

pub prefix_refl : (xs : List ℕ) → IsPrefix xs xs
prefix_refl xs = ([], append-nil xs)

pub prefix_nil : (xs : List ℕ) → IsPrefix [] xs
prefix_nil xs = (xs, refl)

pub prefix_longer : (xs ys more : List ℕ) → IsPrefix xs ys → IsPrefix xs (ys ++ more)
prefix_longer xs ys more p = (p.0 ++ more, sym (append_assoc xs p.0 more) ∙ ap (λ l. l ++ more) p.1)

pub prefix_trans : (xs ys zs : List ℕ) → IsPrefix xs ys → IsPrefix ys zs → IsPrefix xs zs
prefix_trans xs ys zs p q = (p.0 ++ q.0, sym (append_assoc xs p.0 q.0) ∙ ap (λ l. l ++ q.0) p.1 ∙ q.1)

pub prefix_length : (xs ys : List ℕ) → IsPrefix xs ys → length xs ≤ length ys
prefix_length xs ys p = let e : length (xs ++ p.0) ≡ length ys = ap length p.1 in let a = length-append xs p.0 in omega arith

nothing_left : (xs rest ys : List ℕ) → xs ++ rest ≡ ys → length ys ≡ length xs → xs ≡ ys
nothing_left xs [] ys e same = sym (append-nil xs) ∙ e
nothing_left xs (r ∷ rest) ys e same = let a : length (xs ++ r ∷ rest) ≡ length ys = ap length e in let b = length-append xs (r ∷ rest) in absurd (omega arith)

-- a beginning that is as long is the whole
pub prefix_whole : (xs ys : List ℕ) → IsPrefix xs ys → length ys ≡ length xs → xs ≡ ys
prefix_whole xs ys p same = nothing_left xs p.0 ys p.1 same
