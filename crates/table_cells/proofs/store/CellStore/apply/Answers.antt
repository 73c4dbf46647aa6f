use Rattle.std.proofs.Common.{map, List, sym, ◌∙◌, subst}
use Rattle.table_cells.specs.declared.entry.Entry.{Entry}
use Rattle.table_cells.specs.Entries.{column, IsRising}
use Rattle.table_cells.proofs.Adding.{kept-rising, kept-applied}
use Rattle.table_cells.proofs.store.CellStore.apply.Goals as goal

pub add_all-requires-clause-order : goal.add_all-requires-clause-order
add_all-requires-clause-order c =
    subst (λ (es : List Entry). IsRising (map column es)) (sym (c.reserve.ensures.items ∙ c.self.invariant)) (kept-rising _)

pub invariant_of-self-2 : goal.invariant_of-self-2
invariant_of-self-2 c =
    c.add_all.ensures ∙ kept-applied _ _ _ _ _ _ _ (c.reserve.ensures.items ∙ c.self.invariant) c.in_ok-news.ensures c.row.ensures (c.as_slice.ensures ∙ c.cells.ensures.cells) c.push.ensures
