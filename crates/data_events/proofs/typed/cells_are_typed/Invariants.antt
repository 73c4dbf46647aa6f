use Rattle.std.proofs.Common.{take}
use Rattle.std.specs.Prelude.{All}
use Rattle.wal_entry.specs.Framed.{IsTypedCell}
use Rattle.data_events.proofs.typed.cells_are_typed.Given as goal

abbrev pub invariant-loop-cell : goal.invariant-loop-cell
invariant-loop-cell l = All IsTypedCell (take l.cell-index l.cells)
