-- The names of logs tell them apart.
use Rattle.std.proofs.Common.{ℕ, ◌+◌, ◌<◌, ◌%◌, ◌≡◌, ◌^◌, List, [], ◌∷◌, ◌++◌, refl, arith}
use Rattle.std.specs.Fmt.{decimal}
use Rattle.std.proofs.lemmas.Fmt.{decimal_by_steps, decimal_injective}
use Rattle.wal_roll.specs.Log.{log_name}

abbrev NoDot : List ℕ → Type 0
NoDot [] = Unit {0}
NoDot (x ∷ xs) = (47 < x) × NoDot xs

NoDot-append : (xs : List ℕ) (y : ℕ) → NoDot xs → 47 < y → NoDot (xs ++ y ∷ [])
NoDot-append [] y a b = (b, tt)
NoDot-append (x ∷ xs) y a b = (a.0, NoDot-append xs y a.1 b)

decimal_no_dot : (n : ℕ) → n < 2 ^ 64 → NoDot (decimal n)
decimal_no_dot n small = decimal_by_steps (λ _ ds. NoDot ds) (λ n less. (omega arith, tt)) (λ n ds more digits. NoDot-append ds (48 + n % 10) digits (omega arith)) n small

split_dot : (xs ys us vs : List ℕ) → NoDot xs → NoDot us → xs ++ 46 ∷ ys ≡ us ++ 46 ∷ vs → (xs ≡ us) × (ys ≡ vs)
split_dot [] ys [] vs a b e = (refl, cc)
split_dot [] ys (u ∷ us) vs a b e = let h : 46 ≡ u = cc in absurd (omega (arith, h, b.0))
split_dot (x ∷ xs) ys [] vs a b e = let h : x ≡ 46 = cc in absurd (omega (arith, h, a.0))
split_dot (x ∷ xs) ys (u ∷ us) vs a b e =
    let h : x ≡ u = cc in
    let t : xs ++ 46 ∷ ys ≡ us ++ 46 ∷ vs = cc in
    let rest = split_dot xs ys us vs a.1 b.1 t in
    (cc (h, rest.0), rest.1)

pub log_names_apart : (s l t k : ℕ) → s < 2 ^ 64 → l < 2 ^ 64 → t < 2 ^ 64 → k < 2 ^ 64 → log_name s l ≡ log_name t k → (s ≡ t) × (l ≡ k)
unfolding log_name
log_names_apart s l t k a b c d e =
    let parts = split_dot (decimal s) (decimal l) (decimal t) (decimal k) (decimal_no_dot s a) (decimal_no_dot t c) e in
    (decimal_injective s t a c parts.0, decimal_injective l k b d parts.1)
