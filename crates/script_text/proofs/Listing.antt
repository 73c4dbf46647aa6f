-- Lists that grow while texts are read.
use Rattle.std.proofs.Common.{◌≡◌, ℕ, List, [], ◌∷◌, ◌++◌, Option, Some, None, refl, sym, ap, append_assoc}
use Rattle.std.proofs.lemmas.List.{append-nil}
use Rattle.script_text.specs.Lists.{all_of}

-- what was read before, and what is read
abbrev pub more : {X : Type 0} → List X → Option (List X) → Option (List X)
more xs None = None
more xs (Some ys) = Some (xs ++ ys)

pub more-start : {X : Type 0} (r : Option (List X)) → more [] r ≡ r
more-start None = refl
more-start (Some ys) = refl

pub more-end : {X : Type 0} (xs : List X) → more xs (Some []) ≡ Some xs
more-end xs = ap (λ ys. Some ys) (append-nil xs)

pub more-none : {X : Type 0} (read : List ℕ → Option X) (xs : List X) (text : List ℕ) (texts : List (List ℕ)) → read text ≡ None → more xs (all_of read (text ∷ texts)) ≡ None
more-none read xs text texts e = rw e refl

pub more-some : {X : Type 0} (read : List ℕ → Option X) (xs : List X) (text : List ℕ) (texts : List (List ℕ)) (x : X) → read text ≡ Some x → more xs (all_of read (text ∷ texts)) ≡ more (xs ++ x ∷ []) (all_of read texts)
more-some {X} read xs text texts x e = rw e (by (all_of read texts))
  where
    by : (r : Option (List X)) → more xs (Rattle.script_text.specs.Steps.and_then r (λ ys. Some (x ∷ ys))) ≡ more (xs ++ x ∷ []) r
    by None = refl
    by (Some ys) = ap (λ zs. Some zs) (sym (append_assoc xs (x ∷ []) ys))
