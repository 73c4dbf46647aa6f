-- What is said of the numbers from 1 on, number by number.
use Rattle.std.proofs.Common.{◌≡◌, ℕ, zero, suc, ◌+◌, ◌-◌, ◌<◌, ◌≤◌, inl, inr, List, [], ◌∷◌, ◌++◌, min, refl, sym, ap, ◌∙◌, append_assoc, add-one, add-zero, arith}
use Rattle.std.proofs.Math.Nat.{min-eq_left, min-eq_right}
use Rattle.std.specs.List.{flat_map}
use Rattle.std.proofs.lemmas.Bool.{cases_lt}
use Rattle.std.proofs.lemmas.Grind.{flat_map-append}
use Rattle.std.proofs.lemmas.List.{append-nil}
use Rattle.script_text.specs.Drains.{numbers}

pub numbers-more : (n : ℕ) → numbers (n + 1) ≡ numbers n ++ (n + 1) ∷ []
unfolding numbers
numbers-more n = rw (add-one n) refl

flat_map-more : (f : ℕ → List ℕ) (n : ℕ) → flat_map f (numbers (n + 1)) ≡ flat_map f (numbers n) ++ f (n + 1)
flat_map-more f n =
    ap (flat_map f) (numbers-more n) ∙ flat_map-append f (numbers n) ((n + 1) ∷ []) ∙ ap (λ (t : List ℕ). flat_map f (numbers n) ++ t) (append-nil (f (n + 1)))

-- a text that has grown by what is said of each number
pub grown-new : (f : ℕ → List ℕ) (start : List ℕ) → start ≡ start ++ flat_map f (numbers 0)
unfolding numbers
grown-new f start = sym (append-nil start)

grown-more : (f : ℕ → List ℕ) (n : ℕ) (start now next : List ℕ) → now ≡ start ++ flat_map f (numbers n) → next ≡ now ++ f (n + 1) → next ≡ start ++ flat_map f (numbers (n + 1))
grown-more f n start now next h e =
    e ∙ ap (λ (t : List ℕ). t ++ f (n + 1)) h ∙ append_assoc start (flat_map f (numbers n)) (f (n + 1)) ∙ ap (λ (t : List ℕ). start ++ t) (sym (flat_map-more f n))

pub grown-next : (f : ℕ → List ℕ) (n k : ℕ) (start now next : List ℕ) → now ≡ start ++ flat_map f (numbers n) → k ≡ n + 1 → next ≡ now ++ f k → next ≡ start ++ flat_map f (numbers (n + 1))
grown-next f n k start now next h is e = grown-more f n start now next h (e ∙ ap (λ (i : ℕ). now ++ f i) is)

pub grown-all : (f : ℕ → List ℕ) (n last : ℕ) (start now : List ℕ) → now ≡ start ++ flat_map f (numbers n) → n ≡ last → now ≡ start ++ flat_map f (numbers last)
grown-all f n last start now h e = h ∙ ap (λ (k : ℕ). start ++ flat_map f (numbers k)) e

-- where nothing is said of numbers above n
flat_map-above : (f : ℕ → List ℕ) (n k : ℕ) → ((i : ℕ) → n < i → f i ≡ []) → flat_map f (numbers (n + k)) ≡ flat_map f (numbers n)
flat_map-above f n zero none = ap (λ (i : ℕ). flat_map f (numbers i)) (add-zero n)
flat_map-above f n (suc k) none =
    ap (λ (i : ℕ). flat_map f (numbers i)) (next n k)
    ∙ flat_map-more f (n + k)
    ∙ ap (λ (t : List ℕ). flat_map f (numbers (n + k)) ++ t) (none (n + k + 1) (above n k))
    ∙ append-nil (flat_map f (numbers (n + k)))
    ∙ flat_map-above f n k none
  where
    next : (a b : ℕ) → a + suc b ≡ a + b + 1
    next a b = omega arith

    above : (a b : ℕ) → a < a + b + 1
    above a b = omega arith

-- then a text that has grown to the least of n and the last number has grown to the last
all-above : (f : ℕ → List ℕ) (n last : ℕ) → ((i : ℕ) → n < i → f i ≡ []) → flat_map f (numbers (min n last)) ≡ flat_map f (numbers last)
all-above f n last none = elim (cases_lt n last) [
  | inl e ↦ ap (λ (i : ℕ). flat_map f (numbers i)) (min-eq_left (below n last e)) ∙ sym (flat_map-above f n (last - n) none) ∙ ap (λ (i : ℕ). flat_map f (numbers i)) (whole n last e)
  | inr e ↦ ap (λ (i : ℕ). flat_map f (numbers i)) (min-eq_right e)
]
  where
    below : (a b : ℕ) → a < b → a ≤ b
    below a b h = omega arith

    whole : (a b : ℕ) → a < b → a + (b - a) ≡ b
    whole a b h = omega arith

pub grown-above : (f : ℕ → List ℕ) (n k last : ℕ) (start now : List ℕ) → now ≡ start ++ flat_map f (numbers k) → k ≡ min n last → ((i : ℕ) → n < i → f i ≡ []) → now ≡ start ++ flat_map f (numbers last)
grown-above f n k last start now h e none = grown-all f k (min n last) start now h e ∙ ap (λ (t : List ℕ). start ++ t) (all-above f n last none)
