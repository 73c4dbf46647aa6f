-- Entries that rise can be searched by their columns and by their rows.
use Rattle.std.proofs.Common.{◌≡◌, ℕ, ◌+◌, ◌-◌, ◌<◌, ◌≤◌, zero, suc, Bool, true, false, cond, List, [], ◌∷◌, map, length, get_or, take, drop, filter, inl, inr, Ordering, refl, ap, ◌∙◌, subst, arith}
use Rattle.std.specs.List.{AllWithin}
use Rattle.std.specs.List.Sorted.{IsSortedBy, IsNonDecreasingBy, IsPartitionedBy, IsPartitionPoint}
use Rattle.std.specs.declared.cmp.Ordering.TheVariants.{Less, Equal, Greater}
use Rattle.std.specs.Cmp.Lexicographic.{slice_cmp, texts_ties}
use Rattle.std.specs.Ordering.{nat_cmp, is_lt, is_le, is_eq, ordering_index, ordering_then, ordering_reverse}
use Rattle.std.proofs.lemmas.Bool.{true≢false, false≢true, cases_lt}
use Rattle.std.proofs.lemmas.Cmp.{nat_list_cmp_total}
use Rattle.std.proofs.lemmas.List.Sorted.{searchable_from_sorted}
use Rattle.table_cells.specs.declared.entry.Entry.{Entry}
use Rattle.table_cells.specs.Entries.{column, entry_order, is_below_row, is_upto_row, is_of_row, IsRising}
use Rattle.table_cells.proofs.Order.{total, above}

next-above : (es : List Entry) (k : ℕ) (d : Entry) → IsRising (map column es) → suc k < length es → entry_order (get_or es k d) (get_or es (suc k) d) ≡ Less
next-above [] k d r h = absurd (omega arith)
next-above (e ∷ []) k d r h = absurd (omega arith)
next-above (e ∷ f ∷ es) zero d r h = r.0.0
next-above (e ∷ f ∷ es) (suc k) d r h = next-above (f ∷ es) k d r.1 (omega arith)

next : (es : List Entry) (k : ℕ) (d : Entry) → IsRising (map column es) → k + 1 < length es → entry_order (get_or es k d) (get_or es (k + 1) d) ≡ Less
next es k d r h =
    let one : suc k ≡ k + 1 = omega arith in
    subst (λ n. entry_order (get_or es k d) (get_or es n d) ≡ Less) one (next-above es k d r (omega arith))

by_column : (es : List Entry) → IsRising (map column es) → IsSortedBy (λ a b. is_lt (entry_order a b)) es
by_column es r k d low h = ap is_lt (above (column (get_or es k d)) (column (get_or es (k + 1) d)) (next es k d r h))

-- the premise of a search by column
pub rising-searchable : (n : Entry) (es : List Entry) → IsRising (map column es) → IsNonDecreasingBy (λ y. ordering_index (entry_order y n)) es
rising-searchable n es r = searchable_from_sorted total column es (column n) (by_column es r)

first-Less : (o p : Ordering) → ordering_then o p ≡ Less → is_lt (ordering_reverse o) ≡ false
first-Less Less p h = refl
first-Less Equal p h = refl
first-Less Greater p h = absurd (cc)

row-not-lower : (a b : Entry) → entry_order a b ≡ Less → is_lt (slice_cmp nat_cmp b.row a.row) ≡ false
row-not-lower a b l =
    ap is_lt (nat_list_cmp_total.antisymm b.row a.row)
    ∙ first-Less (slice_cmp nat_cmp a.row b.row) (ordering_then (slice_cmp nat_cmp a.family b.family) (slice_cmp nat_cmp a.qualifier b.qualifier)) l

rows-rise : (row : List ℕ) (es : List Entry) → IsRising (map column es) → IsNonDecreasingBy (λ y. ordering_index (slice_cmp nat_cmp y.row row)) es
rows-rise row es r =
    searchable_from_sorted nat_list_cmp_total (λ (e : Entry). e.row) es row
    (λ k d low h. row-not-lower (get_or es k d) (get_or es (k + 1) d) (next es k d r h))

is_lt-upto : (o p : Ordering) → ordering_index o ≤ ordering_index p → is_lt p ≡ true → is_lt o ≡ true
is_lt-upto Less p h l = refl
is_lt-upto Equal Less h l = absurd (omega arith)
is_lt-upto Equal Equal h l = l
is_lt-upto Equal Greater h l = l
is_lt-upto Greater Less h l = absurd (omega arith)
is_lt-upto Greater Equal h l = l
is_lt-upto Greater Greater h l = l

is_le-upto : (o p : Ordering) → ordering_index o ≤ ordering_index p → is_le p ≡ true → is_le o ≡ true
is_le-upto Less p h l = refl
is_le-upto Equal p h l = refl
is_le-upto Greater Less h l = absurd (omega arith)
is_le-upto Greater Equal h l = absurd (omega arith)
is_le-upto Greater Greater h l = l

pub below_row-parts : (row : List ℕ) (es : List Entry) → IsRising (map column es) → IsPartitionedBy (is_below_row row) es
below_row-parts row es r i j d le m h = is_lt-upto (slice_cmp nat_cmp (get_or es i d).row row) (slice_cmp nat_cmp (get_or es j d).row row) (rows-rise row es r i j d le m) h

pub upto_row-parts : (row : List ℕ) (es : List Entry) → IsRising (map column es) → IsPartitionedBy (is_upto_row row) es
upto_row-parts row es r i j d le m h = is_le-upto (slice_cmp nat_cmp (get_or es i d).row row) (slice_cmp nat_cmp (get_or es j d).row row) (rows-rise row es r i j d le m) h

-- a filter keeps the part between two places
pub filter-between : {X : Type 0} (p : X → Bool) (xs : List X) (low high : ℕ) → low ≤ high → high ≤ length xs
    → ((k : ℕ) (d : X) → k < low → p (get_or xs k d) ≡ false)
    → ((k : ℕ) (d : X) → low ≤ k → k < high → p (get_or xs k d) ≡ true)
    → ((k : ℕ) (d : X) → high ≤ k → k < length xs → p (get_or xs k d) ≡ false)
    → filter p xs ≡ take (high - low) (drop low xs)
filter-between p [] zero zero order most before within behind = refl
filter-between p [] zero (suc n) order most before within behind = absurd (omega arith)
filter-between p [] (suc m) n order most before within behind = absurd (omega arith)
filter-between p (x ∷ xs) zero zero order most before within behind =
    ap (λ b. cond b (x ∷ filter p xs) (filter p xs)) (behind 0 x (omega arith) (omega arith))
    ∙ filter-between p xs 0 0 (omega arith) (omega arith) (λ k d h. absurd (omega arith)) (λ k d l h. absurd (omega arith)) (λ k d l h. behind (suc k) d (omega arith) (omega arith))
filter-between p (x ∷ xs) zero (suc n) order most before within behind =
    let count : suc (n - 0) ≡ suc n - 0 = omega arith in
    ap (λ b. cond b (x ∷ filter p xs) (filter p xs)) (within 0 x (omega arith) (omega arith))
    ∙ ap (λ ys. x ∷ ys) (filter-between p xs 0 n (omega arith) (omega arith) (λ k d h. absurd (omega arith)) (λ k d l h. within (suc k) d (omega arith) (omega arith)) (λ k d l h. behind (suc k) d (omega arith) (omega arith)))
    ∙ ap (λ k. take k (x ∷ xs)) count
filter-between p (x ∷ xs) (suc m) zero order most before within behind = absurd (omega arith)
filter-between p (x ∷ xs) (suc m) (suc n) order most before within behind =
    let count : n - m ≡ suc n - suc m = omega arith in
    ap (λ b. cond b (x ∷ filter p xs) (filter p xs)) (before 0 x (omega arith))
    ∙ filter-between p xs m n (omega arith) (omega arith) (λ k d h. before (suc k) d (omega arith)) (λ k d l h. within (suc k) d (omega arith) (omega arith)) (λ k d l h. behind (suc k) d (omega arith) (omega arith))
    ∙ ap (λ k. take k (drop m xs)) count

-- the row itself is neither below the row nor above it
lower-unlike : (o : Ordering) → is_lt o ≡ true → is_eq o ≡ false
lower-unlike Less h = refl
lower-unlike Equal h = absurd (false≢true h)
lower-unlike Greater h = refl

between-like : (o : Ordering) → is_lt o ≡ false → is_le o ≡ true → is_eq o ≡ true
between-like Less h l = absurd (true≢false h)
between-like Equal h l = refl
between-like Greater h l = absurd (false≢true l)

higher-unlike : (o : Ordering) → is_le o ≡ false → is_eq o ≡ false
higher-unlike Less h = refl
higher-unlike Equal h = absurd (true≢false h)
higher-unlike Greater h = refl

lt-le : (o : Ordering) → is_lt o ≡ true → is_le o ≡ false → ⊥
lt-le Less h l = true≢false l
lt-le Equal h l = true≢false l
lt-le Greater h l = false≢true h

-- the places of a row are in order
pub row_places : (row : List ℕ) (es : List Entry) (low high : ℕ) → low ≤ length es
    → AllWithin (λ e. is_below_row row e ≡ true) es 0 low → AllWithin (λ e. is_upto_row row e ≡ false) es high (length es)
    → low ≤ high
row_places row [] low high most lower higher = omega arith
row_places row (e ∷ es) low high most lower higher =
    elim (cases_lt high low) [
      | inl lt ↦ absurd (lt-le (slice_cmp nat_cmp (get_or (e ∷ es) high e).row row) (lower high e (omega arith) (omega arith)) (higher high e (omega arith) (omega arith)))
      | inr ge ↦ ge
    ]

-- the entries of a row are those between its places
pub row_between : (row : List ℕ) (es : List Entry) (low high : ℕ) → low ≤ length es → high ≤ length es
    → IsPartitionPoint (λ e. is_below_row row e ≡ true) (λ e. is_below_row row e ≡ false) es low
    → IsPartitionPoint (λ e. is_upto_row row e ≡ true) (λ e. is_upto_row row e ≡ false) es high
    → filter (is_of_row row) es ≡ take (high - low) (drop low es)
row_between row es low high some most lower upper =
    filter-between (is_of_row row) es low high (row_places row es low high some lower.0 upper.1) most
    (λ k d h. texts_ties (get_or es k d).row row ∙ lower-unlike (slice_cmp nat_cmp (get_or es k d).row row) (lower.0 k d (omega arith) h))
    (λ k d l h. texts_ties (get_or es k d).row row ∙ between-like (slice_cmp nat_cmp (get_or es k d).row row) (lower.1 k d l (omega arith)) (upper.0 k d (omega arith) h))
    (λ k d l h. texts_ties (get_or es k d).row row ∙ higher-unlike (slice_cmp nat_cmp (get_or es k d).row row) (upper.1 k d l h))
