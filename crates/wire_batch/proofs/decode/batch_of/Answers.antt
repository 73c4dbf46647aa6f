use Rattle.wire_batch.specs.Answers.{place}
use Rattle.wire_batch.proofs.Whole.{steps_whole}
use Rattle.wire_batch.proofs.decode.batch_of.Goals as goal

pub returns : goal.returns
returns c =
    let first = c.in-Ok.read in
    let second = c.in-Ok-forms_of.read in
    let end = place c.in_ok-nothing_more.field-0-1 in
    (end, steps_whole c.args.bytes.now first.0 second.0 (place first.1) (place second.1) end c.in-Ok.ensures.reads c.in-Ok-forms_of.ensures c.in_ok-nothing_more.ensures)
