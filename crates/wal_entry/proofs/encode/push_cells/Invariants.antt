use Rattle.std.proofs.Common.{◌≡◌, ◌++◌, take}
use Rattle.wal_entry.specs.Spelling.{cells_spelling}
use Rattle.wal_entry.proofs.encode.push_cells.Given as goal

abbrev pub invariant-loop-cell : goal.invariant-loop-cell
invariant-loop-cell l = l.out ≡ l.fn.out ++ cells_spelling (take l.cell-index l.cells)
