use Rattle.std.proofs.lemmas.Result.{on_err_weaker}
use Rattle.wal_entry.proofs.Grown.{begins_pushed, begins_still}
use Rattle.wal_entry.proofs.encode.push_edit.Goals as goal

pub returns-clause-err : goal.returns-clause-err
returns-clause-err c =
    let start = c.args.out.now in
    let one = c.push_name.new.out in
    let two = c.push_text.new.out in
    let three = c.push.new.self in
    let begins = begins_still start one three (begins_pushed start one _ c.in_ok-push_name.ensures.ok) (begins_still one two three (begins_pushed one two _ c.in_ok-push_text.ensures.ok) (begins_pushed two three _ c.in_ok-push.ensures.ok)) in
    on_err_weaker c.push_cells.result (begins_still start three c.push_cells.new.out begins) c.push_cells.ensures.err
