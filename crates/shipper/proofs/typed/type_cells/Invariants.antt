use Rattle.std.proofs.Common.{All, take}
use Rattle.wal_entry.specs.Framed.{IsTypedCell}
use Rattle.shipper.proofs.typed.type_cells.Given as goal

abbrev pub invariant-loop-cell : goal.invariant-loop-cell
invariant-loop-cell l = All IsTypedCell (take l.cell-index l.cells)
