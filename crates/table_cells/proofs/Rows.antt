-- The entries of a row are those of the row's edits.
use Rattle.std.proofs.Common.{◌≡◌, ℕ, Bool, true, false, cond, List, [], ◌∷◌, ◌++◌, map, filter, Ordering, refl, ap, sym, ◌∙◌}
use Rattle.std.specs.declared.cmp.Ordering.TheVariants.{Less, Equal, Greater}
use Rattle.std.specs.Cmp.Lexicographic.{slice_cmp, texts_ties}
use Rattle.std.specs.List.{filter_map}
use Rattle.std.specs.Ordering.{nat_cmp, match_ordering, ordering_then, is_eq}
use Rattle.std.specs.Str.{bytes_eq}
use Rattle.std.proofs.lemmas.Cmp.{nat_list_cmp_total}
use Rattle.std.proofs.lemmas.List.{map-append}
use Rattle.std.proofs.lemmas.List.Elements.{filter-append}
use Rattle.rep_types.specs.Edit.{EditValue}
use Rattle.rep_types.specs.declared.cell.Cell.{Cell}
use Rattle.rep_model.specs.See.{version_of, versions, see}
use Rattle.rep_model.specs.declared.views.Column.{Column}
use Rattle.table_cells.specs.declared.entry.Entry.{Entry}
use Rattle.table_cells.specs.Entries.{column, entry_order, entry_of, joined, add, add_all, kept, shown_of, is_of_row, IsBelow, IsRising}
use Rattle.table_cells.proofs.Order.{below-trans}
use Rattle.table_cells.proofs.Adding.{add-rising}
use Rattle.table_cells.proofs.Showing.{kept-shows}

first-Equal : (o p : Ordering) → ordering_then o p ≡ Equal → o ≡ Equal
first-Equal Less p h = absurd (cc)
first-Equal Equal p h = refl
first-Equal Greater p h = absurd (cc)

-- entries of one column are of one row
same_row : (row : List ℕ) (n e : Entry) → entry_order n e ≡ Equal → is_of_row row e ≡ is_of_row row n
same_row row n e q =
    let tied = first-Equal (slice_cmp nat_cmp n.row e.row) (ordering_then (slice_cmp nat_cmp n.family e.family) (slice_cmp nat_cmp n.qualifier e.qualifier)) q in
    texts_ties e.row row ∙ ap is_eq (sym (nat_list_cmp_total.congr n.row e.row row tied)) ∙ sym (texts_ties n.row row)

add-first : (n : Entry) (es : List Entry) → IsBelow (column n) (map column es) → add n es ≡ n ∷ es
add-first n [] h = refl
add-first n (e ∷ es) h = ap (λ o. match_ordering o (n ∷ e ∷ es) (joined e n ∷ es) (e ∷ add n es)) h.0

module _ (row : List ℕ) where
  abbrev kept_of : List Entry → List Entry
  kept_of es = filter (is_of_row row) es

  below-kept : (c : Column) (es : List Entry) → IsBelow c (map column es) → IsBelow c (map column (kept_of es))
  below-kept c [] h = tt
  below-kept c (e ∷ es) h =
      elim (is_of_row row e) as (λ (b : Bool). IsBelow c (map column (cond b (e ∷ kept_of es) (kept_of es)))) [
        | true ↦ (h.0, below-kept c es h.1)
        | false ↦ below-kept c es h.1
      ]

  -- an entry of the row is added to those of the row, and another is not
  abbrev Keeps : Entry → List Entry → Type 0
  Keeps n es = kept_of (add n es) ≡ cond (is_of_row row n) (add n (kept_of es)) (kept_of es)

  keeps-Less : (n e : Entry) (es : List Entry) → IsRising (map column (e ∷ es)) → entry_order n e ≡ Less → kept_of (n ∷ e ∷ es) ≡ cond (is_of_row row n) (add n (kept_of (e ∷ es))) (kept_of (e ∷ es))
  keeps-Less n e es r q =
      let under : IsBelow (column n) (map column (e ∷ es)) = (q, below-trans (column n) (column e) (map column es) q r.0) in
      ap (λ xs. cond (is_of_row row n) xs (kept_of (e ∷ es))) (sym (add-first n (kept_of (e ∷ es)) (below-kept (column n) (e ∷ es) under)))

  keeps-Equal : (n e : Entry) (es : List Entry) → entry_order n e ≡ Equal → kept_of (joined e n ∷ es) ≡ cond (is_of_row row n) (add n (kept_of (e ∷ es))) (kept_of (e ∷ es))
  keeps-Equal n e es q =
      (elim (is_of_row row e) as (λ (b : Bool). cond b (joined e n ∷ kept_of es) (kept_of es) ≡ cond b (add n (cond b (e ∷ kept_of es) (kept_of es))) (cond b (e ∷ kept_of es) (kept_of es))) [
        | true ↦ sym (ap (λ o. match_ordering o (n ∷ e ∷ kept_of es) (joined e n ∷ kept_of es) (e ∷ add n (kept_of es))) q)
        | false ↦ refl
      ])
      ∙ ap (λ b. cond b (add n (kept_of (e ∷ es))) (kept_of (e ∷ es))) (same_row row n e q)

  keeps-Greater : (n e : Entry) (es : List Entry) (a b : Bool) → entry_order n e ≡ Greater
      → cond a (e ∷ cond b (add n (kept_of es)) (kept_of es)) (cond b (add n (kept_of es)) (kept_of es)) ≡ cond b (add n (cond a (e ∷ kept_of es) (kept_of es))) (cond a (e ∷ kept_of es) (kept_of es))
  keeps-Greater n e es true true q = sym (ap (λ o. match_ordering o (n ∷ e ∷ kept_of es) (joined e n ∷ kept_of es) (e ∷ add n (kept_of es))) q)
  keeps-Greater n e es true false q = refl
  keeps-Greater n e es false true q = refl
  keeps-Greater n e es false false q = refl

  keeps : (n : Entry) (es : List Entry) → IsRising (map column es) → Keeps n es
  keeps n [] r = refl
  keeps n (e ∷ es) r =
      (elim (entry_order n e) as (λ (o : Ordering). entry_order n e ≡ o → kept_of (match_ordering o (n ∷ e ∷ es) (joined e n ∷ es) (e ∷ add n es)) ≡ cond (is_of_row row n) (add n (kept_of (e ∷ es))) (kept_of (e ∷ es))) [
        | Less ↦ λ q. keeps-Less n e es r q
        | Equal ↦ λ q. keeps-Equal n e es q
        | Greater ↦ λ q.
            ap (λ xs. cond (is_of_row row e) (e ∷ xs) xs) (keeps n es r.1) ∙ keeps-Greater n e es (is_of_row row e) (is_of_row row n) q
      ]) refl

  all_keep : (es ns : List Entry) → IsRising (map column es) → kept_of (add_all es ns) ≡ add_all (kept_of es) (kept_of ns)
  all_keep es [] r = refl
  all_keep es (n ∷ ns) r =
      all_keep (add n es) ns (add-rising n es r)
      ∙ ap (λ xs. add_all xs (kept_of ns)) (keeps n es r)
      ∙ elim (is_of_row row n) as (λ (b : Bool). add_all (cond b (add n (kept_of es)) (kept_of es)) (kept_of ns) ≡ add_all (kept_of es) (cond b (n ∷ kept_of ns) (kept_of ns))) [
        | true ↦ refl
        | false ↦ refl
      ]

  abbrev of_cells : List ℕ → List Cell → List Entry
  of_cells r cells = map entry_of (map (version_of r) cells)

  cells_keep : (r : List ℕ) (cells : List Cell) (b : Bool) → bytes_eq r row ≡ b → kept_of (of_cells r cells) ≡ cond b (of_cells r cells) []
  cells_keep r [] true h = refl
  cells_keep r [] false h = refl
  cells_keep r (x ∷ xs) true h = ap (λ t. cond t (entry_of (version_of r x) ∷ kept_of (of_cells r xs)) (kept_of (of_cells r xs))) h ∙ ap (λ es. entry_of (version_of r x) ∷ es) (cells_keep r xs true h)
  cells_keep r (x ∷ xs) false h = ap (λ t. cond t (entry_of (version_of r x) ∷ kept_of (of_cells r xs)) (kept_of (of_cells r xs))) h ∙ cells_keep r xs false h

  abbrev edits_of_row : List EditValue → List EditValue
  edits_of_row edits = filter (λ (e : EditValue). bytes_eq e.row row) edits

  edits_keep : (edits : List EditValue) → kept_of (map entry_of (versions edits)) ≡ map entry_of (versions (edits_of_row edits))
  edits_keep [] = refl
  edits_keep (e ∷ es) =
      ap kept_of (map-append entry_of (map (version_of e.row) e.cells) (versions es))
      ∙ filter-append (is_of_row row) (of_cells e.row e.cells) (map entry_of (versions es))
      ∙ (elim (bytes_eq e.row row) as (λ (b : Bool). bytes_eq e.row row ≡ b → kept_of (of_cells e.row e.cells) ++ kept_of (map entry_of (versions es)) ≡ map entry_of (versions (cond b (e ∷ edits_of_row es) (edits_of_row es)))) [
        | true ↦ λ h. (λ i. cells_keep e.row e.cells true h i ++ edits_keep es i) ∙ sym (map-append entry_of (map (version_of e.row) e.cells) (versions (edits_of_row es)))
        | false ↦ λ h. λ i. cells_keep e.row e.cells false h i ++ edits_keep es i
      ]) refl

  kept-row : (edits : List EditValue) → kept_of (kept edits) ≡ kept (edits_of_row edits)
  unfolding kept
  kept-row edits = all_keep [] (map entry_of (versions edits)) tt ∙ ap (add_all []) (edits_keep edits)

-- the entries of a row show what its edits show
pub row-shows : (row : List ℕ) (edits : List EditValue) → filter_map shown_of (filter (is_of_row row) (kept edits)) ≡ see (filter (λ (e : EditValue). bytes_eq e.row row) edits)
row-shows row edits = ap (filter_map shown_of) (kept-row row edits) ∙ kept-shows (filter (λ (e : EditValue). bytes_eq e.row row) edits)
