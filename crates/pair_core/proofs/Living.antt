-- The numbers from 1 on that pass a test, number by number.
use Rattle.std.proofs.Common.{◌≡◌, ℕ, ◌+◌, Bool, List, [], ◌∷◌, ◌++◌, filter, sym, ap, ◌∙◌, zero-add}
use Rattle.std.proofs.lemmas.List.FromFn.{filter_of_map_range_with_len_more}
use Rattle.pair_core.specs.Views.{numbers}

pub passed-more : (p : ℕ → Bool) (n s : ℕ) (now next : List ℕ) → now ≡ filter p (numbers n) → s ≡ n + 1 → next ≡ now ++ filter p (s ∷ []) → next ≡ filter p (numbers (n + 1))
passed-more p n s now next h is e =
    e
    ∙ (ap (λ (xs : List ℕ). xs ++ filter p (s ∷ [])) h
    ∙ (ap (λ k. filter p (numbers n) ++ filter p (k ∷ [])) is ∙ sym (filter_of_map_range_with_len_more p (λ k. k + 1) 0 n n (zero-add n))))

pub passed-all : (p : ℕ → Bool) (n last : ℕ) (now : List ℕ) → now ≡ filter p (numbers n) → n ≡ last → now ≡ filter p (numbers last)
passed-all p n last now h e = h ∙ ap (λ k. filter p (numbers k)) e
