use Rattle.std.proofs.Common.{take, sym, subst}
use Rattle.std.specs.Prelude.{All}
use Rattle.std.proofs.lemmas.List.{take_more, take_all}
use Rattle.std.proofs.lemmas.List.Elements.{All-push}
use Rattle.wal_entry.specs.Framed.{IsTypedCell}
use Rattle.data_events.proofs.typed.cells_are_typed.Goals as goal

pub loop-cell-preserved : goal.loop-cell-preserved
loop-cell-preserved c =
    subst (All IsTypedCell) (sym (take_more c.args.cells.now c.loop-cell.cell-index c.cell-item.result c.loop-cell-test.true))
    (All-push IsTypedCell (take c.loop-cell.cell-index c.args.cells.now) _ c.loop-cell.invariant (subst IsTypedCell c.cell-item.is c.cell_is_typed.ensures))

pub returns : goal.returns
returns c = subst (All IsTypedCell) (take_all c.loop-cell.cell-index c.args.cells.now c.loop-cell-test.false) c.loop-cell.invariant
