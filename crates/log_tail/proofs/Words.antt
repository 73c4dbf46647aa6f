-- The words of the table, read and set by number.
use Rattle.std.proofs.Common.{◌≡◌, ◌<◌, ◌+◌, ℕ, zero, suc, Bool, true, false, true≢false, List, [], ◌∷◌, ◌++◌, length, slice_index, set, sym, refl, ap, ◌∙◌, append_assoc, length-append, arith, replicate}
use mathlib.Core.List.{IsPrefix}
use Rattle.log_tail.specs.Knowing.{flag, is_set}

-- what is found at a place, set there again, changes nothing
pub set_found : (words : List ℕ) (i : ℕ) → set words i (slice_index words i) ≡ words
set_found [] i = refl
set_found (x ∷ xs) zero = refl
set_found (x ∷ xs) (suc i) = ap (λ l. x ∷ l) (set_found xs i)

pub index_front : (front back : List ℕ) (i : ℕ) → i < length front → slice_index (front ++ back) i ≡ slice_index front i
index_front [] back i lt = absurd (omega arith)
index_front (x ∷ xs) back zero lt = refl
index_front (x ∷ xs) back (suc i) lt = index_front xs back i (omega arith)

index_seam : (front back : List ℕ) (x : ℕ) → slice_index (front ++ x ∷ back) (length front) ≡ x
index_seam [] back x = refl
index_seam (y ∷ ys) back x = index_seam ys back x

set_seam : (front back : List ℕ) (x y : ℕ) → set (front ++ x ∷ back) (length front) y ≡ front ++ y ∷ back
set_seam [] back x y = refl
set_seam (z ∷ front) back x y = ap (λ l. z ∷ l) (set_seam front back x y)

-- the first word of the rest is set
pub set_next : (front rest : List ℕ) (i x : ℕ) → i ≡ length front → 0 < length rest → (left : List ℕ) × (set (front ++ rest) i x ≡ front ++ x ∷ left) × (suc (length left) ≡ length rest)
set_next front [] i x at room = absurd (omega arith)
set_next front (y ∷ rest) i x at room = (rest, ap (λ k. set (front ++ y ∷ rest) k x) at ∙ set_seam front rest y x, refl)

-- the word behind a beginning
next_of : (xs rest ys : List ℕ) → xs ++ rest ≡ ys → length xs < length ys → IsPrefix (xs ++ slice_index ys (length xs) ∷ []) ys
next_of xs [] ys e lt = let a : length (xs ++ []) ≡ length ys = ap length e in let b = length-append xs [] in absurd (omega arith)
next_of xs (r ∷ rest) ys e lt = let found : slice_index ys (length xs) ≡ r = ap (λ l. slice_index l (length xs)) (sym e) ∙ index_seam xs rest r in
    (rest, append_assoc xs (slice_index ys (length xs) ∷ []) rest ∙ ap (λ n. xs ++ n ∷ rest) found ∙ e)

pub prefix_next : (xs ys : List ℕ) → IsPrefix xs ys → length xs < length ys → IsPrefix (xs ++ slice_index ys (length xs) ∷ []) ys
prefix_next xs ys p lt = next_of xs p.0 ys p.1 lt

-- a word that was seen is found at its place
pub seen_word : (words log seen behind : List ℕ) (a b i k : ℕ) → words ≡ a ∷ b ∷ (log ++ behind) → IsPrefix seen log → i ≡ k + 2 → k < length seen → slice_index words i ≡ slice_index seen k
seen_word words log seen behind a b i k are p at lt = let more : length seen + length p.0 ≡ length log = sym (length-append seen p.0) ∙ ap length p.1 in
    let two : i ≡ suc (suc k) = omega arith in
    ap (λ l. slice_index l i) are ∙ ap (λ j. slice_index (a ∷ b ∷ (log ++ behind)) j) two ∙ index_front log behind k (omega arith) ∙ ap (λ l. slice_index l k) (sym p.1) ∙ index_front seen p.0 k lt

pub set_means : (closed : Bool) (n : ℕ) → n ≡ flag closed → is_set n ≡ true → closed ≡ true
set_means true n e s = refl
set_means false n e s = absurd (true≢false (sym s ∙ ap is_set e))

pub zeros : (capacity m : ℕ) → m ≡ capacity + 2 → replicate {A = ℕ} m 0 ≡ 0 ∷ 0 ∷ replicate {A = ℕ} capacity 0
zeros capacity m e = let two : m ≡ suc (suc capacity) = omega arith in ap (λ k. replicate {A = ℕ} k 0) two
