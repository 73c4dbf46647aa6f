-- What the entries of some edits show is what the edits show.
use Rattle.std.proofs.Common.{◌≡◌, ℕ, Bool, true, false, cond, nat_lt, ◌&&◌, List, [], ◌∷◌, map, filter, Option, Some, None, Ordering, refl, ap, sym, ◌∙◌}
use Rattle.std.specs.Prelude.{fold}
use Rattle.std.specs.declared.cmp.Ordering.TheVariants.{Less, Equal, Greater}
use Rattle.std.specs.Cmp.Lexicographic.{slice_cmp, texts_ties}
use Rattle.std.specs.List.{filter_map, flat_map, cons_option}
use Rattle.std.specs.Option.{option_map}
use Rattle.std.specs.Ordering.{nat_cmp, ordering_then, is_eq}
use Rattle.std.specs.Str.{bytes_eq}
use Rattle.std.proofs.lemmas.List.{map-append}
use Rattle.std.proofs.lemmas.List.Elements.{filter-append}
use Rattle.std.proofs.lemmas.List.Sums.{fold-append}
use Rattle.rep_types.specs.Edit.{EditValue}
use Rattle.rep_types.specs.declared.cell.Cell.{Cell}
use Rattle.rep_types.specs.declared.cell.CellKind.{CellKind}
use Rattle.rep_types.specs.declared.cell.CellKind.TheVariants.{Put, Erase}
use Rattle.rep_types.specs.declared.cell.CellView.{CellView}
use Rattle.rep_model.specs.See.{Version, Stamped, version_of, versions, is_of, cells_of, delete_after, put_after, greatest_delete, latest_put, is_hidden, view_of, shown, add_version, see}
use Rattle.rep_model.specs.declared.views.Column.{Column}
use Rattle.table_cells.specs.declared.entry.Entry.{Entry}
use Rattle.table_cells.specs.declared.entry.Latest.{Latest}
use Rattle.table_cells.specs.Entries.{delete_of, put_of, entry_of, join_deletes, join_puts, joined, kept, stamped, shown_of}
use Rattle.table_cells.proofs.Columns.{is_at, own, blank, at_column, column-fold, add_columns, add_all-columns}

is_eq-then : (o p : Ordering) → is_eq (ordering_then o p) ≡ (is_eq o && is_eq p)
is_eq-then Less p = refl
is_eq-then Equal p = refl
is_eq-then Greater p = refl

and-swap : (a b : Bool) → (a && b) ≡ (b && a)
and-swap true true = refl
and-swap true false = refl
and-swap false true = refl
and-swap false false = refl

-- the entry of a cell is of the column where the row and the cell are
is_at-cell : (c : Column) (row : List ℕ) (x : Cell) → is_at c (entry_of (version_of row x)) ≡ (bytes_eq row c.row && is_of c x)
is_at-cell c row x =
    let family = slice_cmp nat_cmp x.family c.family in
    let qualifier = slice_cmp nat_cmp x.qualifier c.qualifier in
    is_eq-then (slice_cmp nat_cmp row c.row) (ordering_then family qualifier)
    ∙ ap (λ b. is_eq (slice_cmp nat_cmp row c.row) && b) (is_eq-then family qualifier ∙ and-swap (is_eq family) (is_eq qualifier))
    ∙ (λ i. sym (texts_ties row c.row) i && (sym (texts_ties x.qualifier c.qualifier) i && sym (texts_ties x.family c.family) i))

module _ {S : Type 0} (h : S → Option ℕ → Option Latest → S) where
  abbrev by_entry : S → Entry → S
  by_entry s n = h s n.delete n.put

  abbrev by_cell : S → Cell → S
  by_cell s x = h s (delete_of x.stamp x.kind) (put_of x.stamp x.kind)

  abbrev of_cells : List ℕ → List Cell → List Entry
  of_cells row cells = map entry_of (map (version_of row) cells)

  row_fold : (c : Column) (row : List ℕ) → bytes_eq row c.row ≡ true → (s : S) (cells : List Cell) → fold by_entry s (own c (of_cells row cells)) ≡ fold by_cell s (filter (is_of c) cells)
  row_fold c row t s [] = refl
  row_fold c row t s (x ∷ xs) =
      ap (λ b. fold by_entry s (cond b (entry_of (version_of row x) ∷ own c (of_cells row xs)) (own c (of_cells row xs)))) (is_at-cell c row x ∙ ap (λ b. b && is_of c x) t)
      ∙ elim (is_of c x) as (λ (b : Bool). fold by_entry s (cond b (entry_of (version_of row x) ∷ own c (of_cells row xs)) (own c (of_cells row xs))) ≡ fold by_cell s (cond b (x ∷ filter (is_of c) xs) (filter (is_of c) xs))) [
        | true ↦ row_fold c row t (by_cell s x) xs
        | false ↦ row_fold c row t s xs
      ]

  other_row : (c : Column) (row : List ℕ) → bytes_eq row c.row ≡ false → (cells : List Cell) → own c (of_cells row cells) ≡ []
  other_row c row t [] = refl
  other_row c row t (x ∷ xs) =
      ap (λ b. cond b (entry_of (version_of row x) ∷ own c (of_cells row xs)) (own c (of_cells row xs))) (is_at-cell c row x ∙ ap (λ b. b && is_of c x) t)
      ∙ other_row c row t xs

  edit_fold : (c : Column) (s : S) (e : EditValue) → fold by_entry s (own c (of_cells e.row e.cells)) ≡ fold by_cell s (cells_of c e)
  edit_fold c s e =
      (elim (bytes_eq e.row c.row) as (λ (b : Bool). bytes_eq e.row c.row ≡ b → fold by_entry s (own c (of_cells e.row e.cells)) ≡ fold by_cell s (cond b (filter (is_of c) e.cells) [])) [
        | true ↦ λ t. row_fold c e.row t s e.cells
        | false ↦ λ t. ap (fold by_entry s) (other_row c e.row t e.cells)
      ]) refl

  edits_fold : (c : Column) (s : S) (edits : List EditValue) → fold by_entry s (own c (map entry_of (versions edits))) ≡ fold by_cell s (flat_map (cells_of c) edits)
  edits_fold c s [] = refl
  edits_fold c s (e ∷ es) =
      let first = of_cells e.row e.cells in
      let others = map entry_of (versions es) in
      ap (λ ns. fold by_entry s (own c ns)) (map-append entry_of (map (version_of e.row) e.cells) (versions es))
      ∙ ap (fold by_entry s) (filter-append (is_at c) first others)
      ∙ fold-append by_entry s (own c first) (own c others)
      ∙ ap (λ t. fold by_entry t (own c others)) (edit_fold c s e)
      ∙ edits_fold c (fold by_cell s (cells_of c e)) es
      ∙ sym (fold-append by_cell s (cells_of c e) (flat_map (cells_of c) es))

delete-fold : (e : Entry) (ns : List Entry) → (fold joined e ns).delete ≡ fold (λ d (n : Entry). join_deletes d n.delete) e.delete ns
delete-fold e [] = refl
delete-fold e (n ∷ ns) = delete-fold (joined e n) ns

put-fold : (e : Entry) (ns : List Entry) → (fold joined e ns).put ≡ fold (λ p (n : Entry). join_puts p n.put) e.put ns
put-fold e [] = refl
put-fold e (n ∷ ns) = put-fold (joined e n) ns

abbrev with_kind : Cell → CellKind → Cell
with_kind x k = record x { kind = k }

delete-step : (d : Option ℕ) (x : Cell) (k : CellKind) → join_deletes d (delete_of x.stamp k) ≡ delete_after d (with_kind x k)
delete-step d x (Put v) = refl
delete-step d x Erase = refl

deletes : (d : Option ℕ) (xs : List Cell) → fold (λ d (x : Cell). join_deletes d (delete_of x.stamp x.kind)) d xs ≡ fold delete_after d xs
deletes d [] = refl
deletes d (x ∷ xs) = deletes (join_deletes d (delete_of x.stamp x.kind)) xs ∙ ap (λ e. fold delete_after e xs) (delete-step d x x.kind)

later-stamped : (q n : Latest) (b : Bool) → stamped (cond b q n) ≡ cond b (stamped q) (stamped n)
later-stamped q n true = refl
later-stamped q n false = refl

put-step : (p : Option Latest) (x : Cell) (k : CellKind) → option_map stamped (join_puts p (put_of x.stamp k)) ≡ put_after (option_map stamped p) (with_kind x k)
put-step p x Erase = refl
put-step None x (Put v) = refl
put-step (Some q) x (Put v) = ap (λ r. Some r) (later-stamped q (record { stamp = x.stamp; value = v }) (nat_lt x.stamp q.stamp))

puts : (p : Option Latest) (xs : List Cell) → option_map stamped (fold (λ p (x : Cell). join_puts p (put_of x.stamp x.kind)) p xs) ≡ fold put_after (option_map stamped p) xs
puts p [] = refl
puts p (x ∷ xs) = puts (join_puts p (put_of x.stamp x.kind)) xs ∙ ap (λ q. fold put_after q xs) (put-step p x x.kind)

abbrev shown_if : Column → Option ℕ → Option Latest → Option CellView
shown_if c delete None = None
shown_if c delete (Some p) = cond (is_hidden delete p.stamp) None (Some (view_of c (stamped p)))

abbrev shown_unless : Column → Option ℕ → Option Stamped → Option CellView
shown_unless c delete None = None
shown_unless c delete (Some p) = cond (is_hidden delete p.stamp) None (Some (view_of c p))

shown-stamped : (c : Column) (d : Option ℕ) (p : Option Latest) → shown_if c d p ≡ shown_unless c d (option_map stamped p)
shown-stamped c d None = refl
shown-stamped c d (Some p) = refl

entry_shows : (edits : List EditValue) (c : Column) → shown_of (at_column (map entry_of (versions edits)) c) ≡ shown edits c
entry_shows edits c =
    let ns = own c (map entry_of (versions edits)) in
    let xs = flat_map (cells_of c) edits in
    let e = fold joined (blank c) ns in
    let delete : e.delete ≡ greatest_delete xs = delete-fold (blank c) ns ∙ edits_fold (λ d n p. join_deletes d n) c None edits ∙ deletes None xs in
    let put : option_map stamped e.put ≡ latest_put xs =
    ap (option_map stamped) (put-fold (blank c) ns ∙ edits_fold (λ q n p. join_puts q p) c None edits) ∙ puts None xs in
    ap (λ k. shown_if k e.delete e.put) (column-fold (blank c) ns)
    ∙ shown-stamped c e.delete e.put
    ∙ (λ i. shown_unless c (delete i) (put i))

all_show : (edits : List EditValue) (cs : List Column) → filter_map shown_of (map (at_column (map entry_of (versions edits))) cs) ≡ filter_map (shown edits) cs
all_show edits [] = refl
all_show edits (c ∷ cs) = λ i. cons_option (entry_shows edits c i) (all_show edits cs i)

columns-fold : (cs : List Column) (vs : List Version) → fold add_columns cs (map entry_of vs) ≡ fold add_version cs vs
columns-fold cs [] = refl
columns-fold cs (v ∷ vs) = columns-fold (add_version cs v) vs

pub kept-shows : (edits : List EditValue) → filter_map shown_of (kept edits) ≡ see edits
unfolding kept see
kept-shows edits =
    let ns = map entry_of (versions edits) in
    ap (filter_map shown_of) (add_all-columns ns)
    ∙ all_show edits (fold add_columns [] ns)
    ∙ ap (filter_map (shown edits)) (columns-fold [] (versions edits))
