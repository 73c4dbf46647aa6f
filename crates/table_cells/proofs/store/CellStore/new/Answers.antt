use Rattle.table_cells.specs.Entries.{kept}
use Rattle.table_cells.proofs.store.CellStore.new.Goals as goal

pub invariant_of-result : goal.invariant_of-result
unfolding kept
invariant_of-result c = cc
