use Rattle.std.proofs.Common.{◌≡◌, take, map}
use Rattle.rep_model.specs.See.{version_of}
use Rattle.table_cells.specs.Entries.{entry_of}
use Rattle.table_cells.proofs.entry.entries_of.Given as goal

abbrev pub invariant-loop-cell : goal.invariant-loop-cell
invariant-loop-cell l = l.entries.items ≡ map entry_of (map (version_of l.row) (take l.cell-index l.cells))
