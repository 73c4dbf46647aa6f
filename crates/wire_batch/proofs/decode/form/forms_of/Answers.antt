use Rattle.std.proofs.Common.{◌∙◌}
use Rattle.wire_batch.specs.Answers.{place}
use Rattle.wire_batch.proofs.Loop.{one_form, form_stops, none_left}
use Rattle.wire_batch.proofs.decode.form.forms_of.Goals as goal

pub returns-in-Err : goal.returns-in-Err
returns-in-Err c =
    rw c.loop.invariant (form_stops c.in-Err.stop c.args.end c.args.count c.loop.counter c.loop.forms (place c.loop.here) c.loop-test.true c.in-Err.ensures)

pub loop-preserved : goal.loop-preserved
loop-preserved c =
    let read = c.in-Ok.read in
    rw c.in_ok-push.ensures.ok
    (c.loop.invariant ∙ one_form c.args.end c.args.count c.loop.counter c.loop.forms (place c.loop.here) (place read.1) read.0 c.loop-test.true c.in-Ok.ensures)

pub returns : goal.returns
returns c = c.loop.invariant ∙ none_left c.args.end c.args.count c.loop.counter c.loop.forms (place c.loop.here) c.loop-test.false
