use Rattle.std.proofs.Common.{◌≡◌, List, IfOk, ap, ◌∙◌, subst}
use Rattle.std.specs.List.{filter_map}
use Rattle.rep_types.specs.declared.cell.CellView.{CellView}
use Rattle.table_cells.specs.Entries.{kept, shown_of}
use Rattle.table_cells.proofs.Showing.{kept-shows}
use Rattle.table_cells.proofs.store.CellStore.scan.Goals as goal

pub returns : goal.returns
returns c =
    let entries = c.deref.ensures.value ∙ c.self.invariant ∙ ap kept c.self.view_is in
    subst (λ (shown : List CellView). IfOk c.show.result (λ views. views ≡ shown)) (ap (filter_map shown_of) entries ∙ kept-shows c.args.self.now) c.show.ensures
