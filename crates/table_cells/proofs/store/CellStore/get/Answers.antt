use Rattle.std.proofs.Common.{◌≡◌, List, map, filter, IfOk, ap, sym, ◌∙◌, subst}
use Rattle.std.specs.List.{filter_map}
use Rattle.rep_types.specs.declared.cell.CellView.{CellView}
use Rattle.table_cells.specs.declared.entry.Entry.{Entry}
use Rattle.table_cells.specs.Entries.{column, kept, shown_of, is_of_row, IsRising}
use Rattle.table_cells.proofs.Adding.{kept-rising}
use Rattle.table_cells.proofs.Rows.{row-shows}
use Rattle.table_cells.proofs.store.CellStore.get.Goals as goal

pub of_row-requires : goal.of_row-requires
of_row-requires c =
    subst (λ (es : List Entry). IsRising (map column es)) (sym (c.deref.ensures.value ∙ c.self.invariant)) (kept-rising _)

pub returns : goal.returns
returns c =
    let row = c.args.row.now in
    let entries = c.of_row.ensures ∙ ap (filter (is_of_row row)) (c.deref.ensures.value ∙ c.self.invariant ∙ ap kept c.self.view_is) in
    subst (λ (shown : List CellView). IfOk c.show.result (λ views. views ≡ shown)) (ap (filter_map shown_of) entries ∙ row-shows row c.args.self.now) c.show.ensures
