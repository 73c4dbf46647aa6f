use Rattle.std.proofs.Common.{List, ap, arith}
use Rattle.std.proofs.lemmas.Bool.{ne_eqb}
use Rattle.rep_types.specs.declared.cell.Cell.{Cell}
use Rattle.wal_entry.specs.declared.decode.write.Begun.{Begun}
use Rattle.wal_entry.specs.Steps.{place}
use Rattle.wal_entry.proofs.Resumed.{write_begun}
use Rattle.wal_entry.proofs.decode.front.start_of.Goals as goal

pub returns-in_ok-heading-in_default : goal.returns-in_ok-heading-in_default
returns-in_ok-heading-in_default c =
    let f = c.in-Ok.read.0 in
    let head = c.in_ok-heading-in_default in
    let made : List Cell → Begun = λ cells. record { at = head.next.at; end = head.next.end; fields = f; heading = head.heading; cells = cells } in
    write_begun c.args.bytes.now c.in_ok-end.end f head.heading (place c.in_ok-end.next) (place c.in-Ok.read.1) (place head.next) _ c.in_ok-end.ensures.reads c.in-Ok.ensures
    (ne_eqb f.kind 1 (λ e. omega arith)) (ne_eqb f.kind 2 (λ e. omega arith)) head.ensures head.next.within head.next.most (ap made c.new.ensures)
