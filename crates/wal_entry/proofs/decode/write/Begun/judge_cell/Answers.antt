use Rattle.std.proofs.Common.{List, ap}
use Rattle.std.proofs.lemmas.Result.{err_from_is_err_and}
use Rattle.rep_types.specs.declared.cell.Cell.{Cell}
use Rattle.wal_entry.specs.Steps.{place}
use Rattle.wal_entry.proofs.Resumed.{one_cell, cell_stops}
use Rattle.wal_entry.proofs.decode.write.Begun.judge_cell.Goals as goal

pub returns-in_err-cell-clause-stops : goal.returns-in_err-cell-clause-stops
returns-in_err-cell-clause-stops c =
    let p = err_from_is_err_and c.from_residual.result c.from_residual.ensures.1 in
    rw (p.1, p.2) (cell_stops c.args.self.now c.args.bytes.now c.in_err-cell.field-0.0 c.requires.begun c.requires.more (rw (c.as_slice.ensures, c.here-here.ensures) at c.in_err-cell.ensures))

pub returns-clause-begun : goal.returns-clause-begun
returns-clause-begun c =
    let old = c.args.self.now in
    let next = c.in_ok-cell.next in
    one_cell old _ c.args.bytes.now c.in_ok-cell.cell (place next) c.requires.begun c.requires.more (rw (c.as_slice.ensures, c.here-here.ensures) at c.in_ok-cell.ensures) next.within
    (ap (λ (all : List Cell). record old { at = next.at; cells = all }) c.in_ok-push.ensures.ok)
