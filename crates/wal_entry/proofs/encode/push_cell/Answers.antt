use Rattle.std.proofs.lemmas.Result.{on_err_weaker}
use Rattle.wal_entry.proofs.Grown.{begins_pushed, begins_still}
use Rattle.wal_entry.proofs.encode.push_cell.Goals as goal

pub returns-clause-err : goal.returns-clause-err
returns-clause-err c =
    let start = c.args.out.now in
    let one = c.push_name.new.out in
    let two = c.push_name-2.new.out in
    let three = c.extend_from_slice.new.self in
    let begins = begins_still start one three (begins_pushed start one _ c.in_ok-push_name.ensures.ok) (begins_still one two three (begins_pushed one two _ c.in_ok-push_name-2.ensures.ok) (begins_pushed two three _ c.in_ok-extend_from_slice.ensures.ok)) in
    on_err_weaker c.push_cell_kind.result (begins_still start three c.push_cell_kind.new.out begins) c.push_cell_kind.ensures.err
