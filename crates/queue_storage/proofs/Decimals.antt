-- The text of a number of 32 bits is that of no other number, however large, and a slash ends it.
use Rattle.std.proofs.Common.{ℕ, zero, suc, ◌+◌, ◌==◌, ◌<◌, ◌≤◌, ◌/◌, ◌%◌, ◌≡◌, ◌^◌, ◌⊎◌, inl, inr, Bool, true, false, cond, List, [], ◌∷◌, ◌++◌, length, refl, ap, sym, subst, arith, ne_eqb}
use Rattle.std.specs.Prelude.{nat_lt}
use Rattle.std.proofs.lemmas.Bool.{cond_both, cases_lt}
use Rattle.std.specs.Fmt.{digit_glyph, digits_onto, digits, decimal}
use Rattle.std.proofs.lemmas.Fmt.{decimal_injective, length-decimal-le}

abbrev spell : ℕ → ℕ → List ℕ → List ℕ
spell k n acc = digits_onto k 10 false n acc

abbrev glyph : ℕ → ℕ
glyph n = digit_glyph false (n % 10)

-- ---- long numbers have long texts

grows : (k n : ℕ) (acc : List ℕ) → length acc ≤ length (spell k n acc)
grows zero n acc = omega arith
grows (suc k) n acc =
    cond_both (n / 10 == 0) (glyph n ∷ acc) (spell k (n / 10) (glyph n ∷ acc)) (λ t. length acc ≤ length t) (λ _. omega arith) (λ _. omega (arith, grows k (n / 10) (glyph n ∷ acc)))

some_power : (j : ℕ) → 1 ≤ 10 ^ j
some_power zero = omega arith
some_power (suc j) = omega (arith, some_power j)

long : (k j n : ℕ) (acc : List ℕ) → j ≤ k → 10 ^ j ≤ n → j + length acc ≤ length (spell k n acc)
long k zero n acc few most = omega (arith, grows k n acc)
long zero (suc j) n acc few most = absurd (omega arith)
long (suc k) (suc j) n acc few most =
    let next : spell (suc k) n acc ≡ spell k (n / 10) (glyph n ∷ acc) = ap (λ t. cond t (glyph n ∷ acc) (spell k (n / 10) (glyph n ∷ acc))) (ne_eqb (n / 10) 0 (λ e. omega (arith, some_power j))) in
    subst (λ t. suc j + length acc ≤ length t) (sym next) (omega (arith, long k j (n / 10) (glyph n ∷ acc) (omega arith) (omega arith)))

long_decimal : (n : ℕ) → 2 ^ 64 ≤ n → 19 ≤ length (decimal n)
unfolding digits
long_decimal n most = long 64 19 n [] (omega arith) (omega arith)

pub decimal_apart : (s t : ℕ) → s < 2 ^ 32 → decimal s ≡ decimal t → s ≡ t
decimal_apart s t small e = elim (cases_lt t (2 ^ 64)) [
  | inl less ↦ decimal_injective s t (omega arith) less e
  | inr most ↦ absurd (omega (arith, length-decimal-le 10 s (omega arith) (omega arith) (omega arith), long_decimal t most, ap length e))
]

-- ---- no digit is a dot or a slash

abbrev pub AreDigits : List ℕ → Type 0
AreDigits [] = Unit {0}
AreDigits (x ∷ xs) = (47 < x) × AreDigits xs

glyph_least : (n : ℕ) → 47 < glyph n
glyph_least n = cond_both (nat_lt (n % 10) 10) (48 + n % 10) (87 + n % 10) (λ d. 47 < d) (λ _. omega arith) (λ _. omega arith)

spelt_digits : (k n : ℕ) (acc : List ℕ) → AreDigits acc → AreDigits (spell k n acc)
spelt_digits zero n acc h = h
spelt_digits (suc k) n acc h =
    cond_both (n / 10 == 0) (glyph n ∷ acc) (spell k (n / 10) (glyph n ∷ acc)) AreDigits (λ _. (glyph_least n, h)) (λ _. spelt_digits k (n / 10) (glyph n ∷ acc) (glyph_least n, h))

pub decimal_digits : (n : ℕ) → AreDigits (decimal n)
unfolding digits
decimal_digits n = spelt_digits 64 n [] tt

pub split_slash : (xs ys us vs : List ℕ) → AreDigits xs → AreDigits us → xs ++ 47 ∷ ys ≡ us ++ 47 ∷ vs → (xs ≡ us) × (ys ≡ vs)
split_slash [] ys [] vs a b e = (refl, cc)
split_slash [] ys (u ∷ us) vs a b e = let h : 47 ≡ u = cc in absurd (omega (arith, h, b.0))
split_slash (x ∷ xs) ys [] vs a b e = let h : x ≡ 47 = cc in absurd (omega (arith, h, a.0))
split_slash (x ∷ xs) ys (u ∷ us) vs a b e =
    let h : x ≡ u = cc in
    let t : xs ++ 47 ∷ ys ≡ us ++ 47 ∷ vs = cc in
    let rest = split_slash xs ys us vs a.1 b.1 t in
    (cc (h, rest.0), rest.1)
