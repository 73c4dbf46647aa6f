-- What a table shows of a column is what its cells show of it.
use Rattle.std.proofs.Common.{◌≡◌, ℕ, Bool, true, cond, List, map, Option, Some, None, ap, sym, ◌∙◌}
use Rattle.std.specs.Prelude.{find}
use Rattle.std.specs.Cmp.Lexicographic.{slice_cmp, texts_ties}
use Rattle.std.specs.List.{list_any, flat_map}
use Rattle.std.specs.Ordering.{nat_cmp, ordering_then, is_eq}
use Rattle.std.proofs.lemmas.Slice.Eq.{bytes_eq-Decides}
use Rattle.rep_types.specs.declared.cell.CellView.{CellView}
use Rattle.rep_model.specs.See as model
use Rattle.rep_model.specs.See.{Stamped, column_order, cells_of, delete_after, put_after, greatest_delete, latest_put, is_hidden, view_of}
use Rattle.rep_model.specs.declared.views.Column.{Column}
use Rattle.store_file.specs.declared.cell.RunCell.{RunCell}
use Rattle.store_file.specs.Order.{are_in_order}
use Rattle.run_cells.specs.Outdone.{is_outdone, shown}
use Rattle.run_cells.proofs.Order.{split-and}
use Rattle.run_cells.proofs.Sorted.{rises}
use Rattle.cell_laws.proofs.Listed.{is_shown_of}
use Rattle.cell_laws.proofs.Columns.{is_eq-then}
use Rattle.cell_laws.specs.Ranked.{edit_of, NeverFalls}
use Rattle.cell_laws.proofs.Own.{column, hides, put_at, own-fold, hidden-fold, no_put}
use Rattle.cell_laws.proofs.Latest.{is_it, rivals, stamped, settles}
use Rattle.cell_laws.proofs.First.{first, hidden-outdone}

texts-equal : (xs ys : List ℕ) → is_eq (slice_cmp nat_cmp xs ys) ≡ true → xs ≡ ys
texts-equal xs ys h = (bytes_eq-Decides xs ys).0 (texts_ties xs ys ∙ h)

columns-equal : (k l : Column) → is_eq (column_order k l) ≡ true → k ≡ l
columns-equal k l h =
    let rows = slice_cmp nat_cmp k.row l.row in
    let families = slice_cmp nat_cmp k.family l.family in
    let qualifiers = slice_cmp nat_cmp k.qualifier l.qualifier in
    let first = split-and (is_eq rows) (is_eq (ordering_then families qualifiers)) (sym (is_eq-then rows (ordering_then families qualifiers)) ∙ h) in
    let second = split-and (is_eq families) (is_eq qualifiers) (sym (is_eq-then families qualifiers) ∙ first.1) in
    let row = texts-equal k.row l.row first.0 in
    let family = texts-equal k.family l.family second.0 in
    let qualifier = texts-equal k.qualifier l.qualifier second.1 in
    λ i. record { row = row i; family = family i; qualifier = qualifier i }

abbrev shown_unless : Column → Option ℕ → Option Stamped → Option CellView
shown_unless k delete None = None
shown_unless k delete (Some p) = cond (is_hidden delete p.stamp) None (Some (view_of k p))

pub column_told : (table : List ℕ) (cells ranked : List RunCell) → are_in_order cells ≡ true → NeverFalls ranked
    → ((test : RunCell → Bool) → list_any test ranked ≡ list_any test cells)
    → (k : Column) → model.shown (map (edit_of table) ranked) k ≡ find (is_shown_of k) (shown cells)
unfolding shown
column_told table cells ranked ordered falls same k =
    let own = flat_map (cells_of k) (map (edit_of table) ranked) in
    first cells k cells (λ p h. h) (rises cells ordered)
    (λ h none.
    let put : latest_put own ≡ None = own-fold put_after table k None ranked ∙ no_put k ranked (same (put_at k) ∙ h) in
    ap (shown_unless k (greatest_delete own)) put ∙ sym none)
    (λ c w f.
    let put : latest_put own ≡ Some (stamped c w) =
    own-fold put_after table k None ranked ∙ settles k c w None ranked tt falls (same (rivals k c w) ∙ f.best) (same (is_it k c w) ∙ f.there) in
    let hidden : is_hidden (greatest_delete own) c.stamp ≡ is_outdone cells c =
    ap (λ d. is_hidden d c.stamp) (own-fold delete_after table k None ranked)
    ∙ hidden-fold k c.stamp None ranked
    ∙ same (hides k c.stamp)
    ∙ hidden-outdone k c w cells f.is f.here f.best in
    ap (shown_unless k (greatest_delete own)) put
    ∙ ap (λ b. cond b None (Some (view_of k (stamped c w)))) hidden
    ∙ ap (λ l. cond (is_outdone cells c) None (Some (view_of l (stamped c w)))) (sym (columns-equal (column c) k f.here))
    ∙ sym f.shows)
