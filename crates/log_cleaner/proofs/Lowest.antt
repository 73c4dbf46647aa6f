-- The lowest of numbers that come one by one.
use Rattle.std.proofs.Common.{◌≡◌, ℕ, ◌+◌, ◌<◌, Bool, true, false, cond, List, [], ◌∷◌, ◌++◌, map, filter, take, length, get_or, Option, Some, None, refl, sym, ap, ◌∙◌, arith}
use Rattle.std.proofs.lemmas.List.{map-append, append-nil, take_more}
use Rattle.std.proofs.lemmas.List.Elements.{filter-append}
use Rattle.log_cleaner.specs.Needs.{lower_of, lowest}

lower_swap : (a b : ℕ) (o : Option ℕ) → lower_of a (Some (lower_of b o)) ≡ lower_of b (Some (lower_of a o))
lower_swap a b None = omega arith
lower_swap a b (Some m) = omega arith

pub lowest_push : (ns : List ℕ) (n : ℕ) → lowest (ns ++ n ∷ []) ≡ Some (lower_of n (lowest ns))
lowest_push [] n = refl
lowest_push (m ∷ ns) n = ap (λ o. Some (lower_of m o)) (lowest_push ns n) ∙ ap (λ (k : ℕ). Some k) (lower_swap m n (lowest ns))

abbrev pub lowest_in : {A : Type 0} → (A → Bool) → (A → ℕ) → List A → Option ℕ
lowest_in needs number xs = lowest (map number (filter needs xs))

module _ {A : Type 0} (needs : A → Bool) (number : A → ℕ) where
  pushed : (xs : List A) (x : A) (b : Bool) → needs x ≡ b → lowest_in needs number (xs ++ x ∷ []) ≡ lowest (map number (filter needs xs) ++ map number (cond b (x ∷ []) []))
  pushed xs x b h =
      ap (λ ys. lowest (map number ys)) (filter-append needs xs (x ∷ []) ∙ ap (λ c. filter needs xs ++ cond c (x ∷ []) []) h)
      ∙ ap lowest (map-append number (filter needs xs) (cond b (x ∷ []) []))

  grown : (xs : List A) (i : ℕ) (x : A) → i < length xs → x ≡ get_or xs i x → take i xs ++ x ∷ [] ≡ take (i + 1) xs
  grown xs i x lt at = ap (λ (y : A). take i xs ++ y ∷ []) at ∙ sym (take_more xs i x lt)

  pub more_needy : (xs : List A) (i : ℕ) (x : A) (o p : Option ℕ) → i < length xs → o ≡ lowest_in needs number (take i xs) → x ≡ get_or xs i x → needs x ≡ true
      → p ≡ Some (lower_of (number x) o) → p ≡ lowest_in needs number (take (i + 1) xs)
  more_needy xs i x o p lt h at needy made =
      made
      ∙ ap (λ (q : Option ℕ). Some (lower_of (number x) q)) h
      ∙ sym (lowest_push (map number (filter needs (take i xs))) (number x))
      ∙ sym (pushed (take i xs) x true needy)
      ∙ ap (lowest_in needs number) (grown xs i x lt at)

  pub no_more : (xs : List A) (i : ℕ) (x : A) (o p : Option ℕ) → i < length xs → o ≡ lowest_in needs number (take i xs) → x ≡ get_or xs i x → needs x ≡ false
      → p ≡ o → p ≡ lowest_in needs number (take (i + 1) xs)
  no_more xs i x o p lt h at free same =
      same ∙ h
      ∙ ap lowest (sym (append-nil (map number (filter needs (take i xs)))))
      ∙ sym (pushed (take i xs) x false free)
      ∙ ap (lowest_in needs number) (grown xs i x lt at)
