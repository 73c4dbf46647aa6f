use Rattle.std.proofs.Common.{sym, subst}
use Rattle.std.proofs.lemmas.List.{take_all}
use Rattle.std.proofs.lemmas.List.Elements.{All-more, All-same}
use Rattle.wal_entry.specs.Framed.{IsTypedCell}
use Rattle.shipper.proofs.typed.type_cells.Goals as goal

pub loop-cell-preserved : goal.loop-cell-preserved
loop-cell-preserved c =
    All-more IsTypedCell c.args.cells.now c.loop-cell.cell-index c.cell-item.result c.loop-cell-test.true c.loop-cell.invariant (subst IsTypedCell c.cell-item.is c.type_cell.ensures)

pub returns : goal.returns
returns c = All-same IsTypedCell c.args.cells.now _ (sym (take_all c.loop-cell.cell-index c.args.cells.now c.loop-cell-test.false)) c.loop-cell.invariant
