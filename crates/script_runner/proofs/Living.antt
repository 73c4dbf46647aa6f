-- The numbers from 1 on that pass a test, number by number.
use Rattle.std.proofs.Common.{◌≡◌, ℕ, ◌+◌, Bool, List, [], ◌∷◌, ◌++◌, filter, refl, sym, ap, ◌∙◌}
use Rattle.std.proofs.lemmas.List.Elements.{filter-append}
use Rattle.script_text.specs.Drains.{numbers}
use Rattle.script_lines.proofs.Numbers.{numbers-more}

pub passed-new : (p : ℕ → Bool) → [] ≡ filter p (numbers 0)
unfolding numbers
passed-new p = refl

pub passed-more : (p : ℕ → Bool) (n s : ℕ) (now next : List ℕ) → now ≡ filter p (numbers n) → s ≡ n + 1 → next ≡ now ++ filter p (s ∷ []) → next ≡ filter p (numbers (n + 1))
passed-more p n s now next h is e =
    e ∙ ap (λ (t : List ℕ). t ++ filter p (s ∷ [])) h ∙ ap (λ (k : ℕ). filter p (numbers n) ++ filter p (k ∷ [])) is
    ∙ sym (filter-append p (numbers n) ((n + 1) ∷ [])) ∙ ap (filter p) (sym (numbers-more n))

pub passed-all : (p : ℕ → Bool) (n last : ℕ) (now : List ℕ) → now ≡ filter p (numbers n) → n ≡ last → now ≡ filter p (numbers last)
passed-all p n last now h e = h ∙ ap (λ (k : ℕ). filter p (numbers k)) e
