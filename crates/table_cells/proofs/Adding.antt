-- What adding an entry does to the columns, and to the entries of a place.
use Rattle.std.proofs.Common.{◌≡◌, ℕ, ◌<◌, ◌≤◌, zero, suc, List, [], ◌∷◌, ◌++◌, map, length, get_or, set, slice_get, Some, Result, Ok, Err, Ordering, refl, ap, sym, ◌∙◌, subst, append-nil, arith}
use Rattle.std.specs.Prelude.{insert, slice_set, IfOk, IfErr}
use Rattle.std.specs.List.Sorted.{IsBinarySearchResult, IsSearchInRange, IsNonDecreasingBy}
use Rattle.std.specs.declared.cmp.Ordering.TheVariants.{Less, Equal, Greater}
use Rattle.std.specs.Ordering.{match_ordering, ordering_index}
use Rattle.std.proofs.lemmas.Cmp.{tied_back}
use Rattle.std.proofs.lemmas.Option.{none-some, same_Some}
use Rattle.std.proofs.lemmas.List.{map-append}
use Rattle.std.proofs.lemmas.List.Sums.{fold-append}
use Rattle.std.proofs.lemmas.Grind.{flat_map-append}
use Rattle.rep_types.specs.Edit.{EditValue}
use Rattle.rep_types.specs.declared.cell.Cell.{Cell}
use Rattle.rep_model.specs.See.{column_order, add_column, version_of, versions}
use Rattle.rep_model.specs.declared.views.Column.{Column}
use Rattle.table_cells.specs.declared.entry.Entry.{Entry}
use Rattle.table_cells.specs.Entries.{column, entry_order, entry_of, joined, add, add_all, kept, IsBelow, IsRising}
use Rattle.table_cells.proofs.Order.{total, above, below, rising-add}

pub columns-add : (n : Entry) (es : List Entry) → map column (add n es) ≡ add_column (column n) (map column es)
columns-add n [] = refl
columns-add n (e ∷ es) =
    elim (entry_order n e) as (λ (o : Ordering). map column (match_ordering o (n ∷ e ∷ es) (joined e n ∷ es) (e ∷ add n es)) ≡ match_ordering o (column n ∷ column e ∷ map column es) (column e ∷ map column es) (column e ∷ add_column (column n) (map column es))) [
      | Less ↦ refl
      | Equal ↦ refl
      | Greater ↦ ap (λ cs. column e ∷ cs) (columns-add n es)
    ]

pub add-rising : (n : Entry) (es : List Entry) → IsRising (map column es) → IsRising (map column (add n es))
add-rising n es r = subst IsRising (sym (columns-add n es)) (rising-add (column n) (map column es) r)

pub add_all-rising : (es news : List Entry) → IsRising (map column es) → IsRising (map column (add_all es news))
add_all-rising es [] r = r
add_all-rising es (n ∷ ns) r = add_all-rising (add n es) ns (add-rising n es r)

pub kept-rising : (edits : List EditValue) → IsRising (map column (kept edits))
unfolding kept
kept-rising edits = add_all-rising [] (map entry_of (versions edits)) tt

-- an entry behind the first stands above it
later-above : (c : Column) (es : List Entry) (k : ℕ) (e : Entry) → IsBelow c (map column es) → slice_get es k ≡ Some e → column_order c (column e) ≡ Less
later-above c [] k e h g = absurd (none-some e g)
later-above c (x ∷ xs) zero e h g = subst (λ (z : Entry). column_order c (column z) ≡ Less) (same_Some x e g) h.0
later-above c (x ∷ xs) (suc k) e h g = later-above c xs k e h.1 g

-- the column stands at its place
pub add-standing : (n : Entry) (es : List Entry) (at : ℕ) (old : Entry) → IsRising (map column es) → slice_get es at ≡ Some old → entry_order old n ≡ Equal → add n es ≡ set es at (joined old n)
add-standing n [] at old r g q = absurd (none-some old g)
add-standing n (e ∷ es) zero old r g q =
    let same : e ≡ old = same_Some e old g in
    let tied : entry_order n e ≡ Equal = tied_back total (column e) (column n) (subst (λ (z : Entry). entry_order z n ≡ Equal) (sym same) q) in
    ap (λ o. match_ordering o (n ∷ e ∷ es) (joined e n ∷ es) (e ∷ add n es)) tied ∙ ap (λ (z : Entry). joined z n ∷ es) same
add-standing n (e ∷ es) (suc k) old r g q =
    let higher : entry_order n e ≡ Greater = sym (total.congr (column old) (column n) (column e) q) ∙ above (column e) (column old) (later-above (column e) es k old r.0 g) in
    ap (λ o. match_ordering o (n ∷ e ∷ es) (joined e n ∷ es) (e ∷ add n es)) higher ∙ ap (λ xs. e ∷ xs) (add-standing n es k old r.1 g q)

-- the entries before the place are below, those from there on above
pub add-absent : (n : Entry) (es : List Entry) (at : ℕ) → at ≤ length es → ((k : ℕ) (d : Entry) → k < at → entry_order (get_or es k d) n ≡ Less) → ((k : ℕ) (d : Entry) → at ≤ k → k < length es → entry_order (get_or es k d) n ≡ Greater) → add n es ≡ insert es at n
add-absent n [] zero most lower higher = refl
add-absent n [] (suc k) most lower higher = absurd (omega arith)
add-absent n (e ∷ es) zero most lower higher =
    let high : entry_order e n ≡ Greater = higher 0 e (omega arith) (omega arith) in
    ap (λ o. match_ordering o (n ∷ e ∷ es) (joined e n ∷ es) (e ∷ add n es)) (below (column e) (column n) high)
add-absent n (e ∷ es) (suc k) most lower higher =
    let low : entry_order e n ≡ Less = lower 0 e (omega arith) in
    ap (λ o. match_ordering o (n ∷ e ∷ es) (joined e n ∷ es) (e ∷ add n es)) (above (column e) (column n) low)
    ∙ ap (λ xs. e ∷ xs) (add-absent n es k (omega arith) (λ j d h. lower (suc j) d (omega arith)) (λ j d h m. higher (suc j) d (omega arith) (omega arith)))

got_there : (es : List Entry) (at : ℕ) (old d : Entry) → slice_get es at ≡ Some old → get_or es at d ≡ old
got_there [] at old d g = absurd (none-some old g)
got_there (e ∷ es) zero old d g = same_Some e old g
got_there (e ∷ es) (suc k) old d g = got_there es k old d g

-- what a search for the column says of adding the entry
pub place_stands : (n : Entry) (es : List Entry) (r : Result ℕ ℕ) → IsRising (map column es) → IsBinarySearchResult (λ e. entry_order e n) es r
    → IfOk r (λ at. (old : Entry) → slice_get es at ≡ Some old → add n es ≡ slice_set es at (joined old n))
place_stands n es (Ok at) rising found = λ old g. add-standing n es at old rising g (subst (λ (z : Entry). entry_order z n ≡ Equal) (got_there es at old n g) (found n))
place_stands n es (Err at) rising found = tt

pub place_absent : (n : Entry) (es : List Entry) (r : Result ℕ ℕ) → IsSearchInRange r (length es) → IsNonDecreasingBy (λ e. ordering_index (entry_order e n)) es → IsBinarySearchResult (λ e. entry_order e n) es r
    → IfErr r (λ at. add n es ≡ insert es at n)
place_absent n es (Ok at) bound rise found = tt
place_absent n es (Err at) bound rise found =
    let parts = found rise in
    add-absent n es at bound (λ k d h. parts.0 k d (omega arith) h) parts.1

versions-more : (edits : List EditValue) (e : EditValue) → versions (edits ++ e ∷ []) ≡ versions edits ++ map (version_of e.row) e.cells
versions-more edits e =
    flat_map-append (λ (x : EditValue). map (version_of x.row) x.cells) edits (e ∷ []) ∙ ap (λ vs. versions edits ++ vs) (append-nil (map (version_of e.row) e.cells))

kept-more : (edits : List EditValue) (e : EditValue) → kept (edits ++ e ∷ []) ≡ add_all (kept edits) (map entry_of (map (version_of e.row) e.cells))
unfolding kept
kept-more edits e =
    ap (λ vs. add_all [] (map entry_of vs)) (versions-more edits e)
    ∙ ap (add_all []) (map-append entry_of (versions edits) (map (version_of e.row) e.cells))
    ∙ fold-append (λ es n. add n es) [] (map entry_of (versions edits)) (map entry_of (map (version_of e.row) e.cells))

-- an edit more was applied
pub kept-applied : (edits after : List EditValue) (e : EditValue) (es news : List Entry) (row : List ℕ) (cells : List Cell)
    → es ≡ kept edits → news ≡ map entry_of (map (version_of row) cells) → row ≡ e.row → cells ≡ e.cells → after ≡ edits ++ e ∷ []
    → add_all es news ≡ kept after
kept-applied edits after e es news row cells before new of_row of_cells then =
    (λ i. add_all (before i) (new i))
    ∙ (λ i. add_all (kept edits) (map entry_of (map (version_of (of_row i)) (of_cells i))))
    ∙ sym (ap kept then ∙ kept-more edits e)
