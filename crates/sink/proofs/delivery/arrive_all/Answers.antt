-- A delivery, form by form.
use Rattle.std.proofs.Common.{◌+◌, ◌<◌, ◌++◌, length, arith}
use Rattle.sink.proofs.Steps.{there, went, stopped, ran_out_here}
use Rattle.sink.proofs.delivery.arrive_all.Goals as goal

pub returns-in-Err-Stopped-clause-does : goal.returns-in-Err-Stopped-clause-does
returns-in-Err-Stopped-clause-does g c =
    let less : c.loop-form.form-index < length c.args.forms.now = omega arith in
    let found = there c.args.forms.now c.loop-form.form-index c.form-item.result less c.form-item.is in
    let does = rw c.in-Err-Stopped.field-0-is at c.in-Err-Stopped.ensures.does in
    rw c.in-Err-Stopped.field-0-is
    (stopped c.args.batch.now c.args.forms.now c.loop-form.form-index c.loop-form.arrived (g.A.Arrivals.state c.args.host.now) (g.A.Arrivals.state c.loop-form.host) (g.A.Arrivals.state c.arrive.new.self) c.loop-form.acks.items
    c.ascending.result c.form-item.result c.origin_of.result c.in-Err-Stopped.cause c.loop-form.invariant.0 found c.origin_of.ensures does c.ascending.ensures c.loop-form.invariant.1)

pub returns-then-is_err-clause-does : goal.returns-then-is_err-clause-does
returns-then-is_err-clause-does g c =
    let less : c.loop-form.form-index < length c.args.forms.now = omega arith in
    let found = there c.args.forms.now c.loop-form.form-index c.form-item.result less c.form-item.is in
    ran_out_here c.args.batch.now c.args.forms.now (c.loop-form.form-index + 1) (g.A.Arrivals.state c.args.host.now) (g.A.Arrivals.state c.arrive.new.self) (c.loop-form.acks.items ++ c.in-Ok.tickets)
    (went c.args.batch.now c.args.forms.now c.loop-form.form-index (g.A.Arrivals.state c.args.host.now) (g.A.Arrivals.state c.loop-form.host) (g.A.Arrivals.state c.arrive.new.self) c.loop-form.acks.items c.in-Ok.tickets
    c.form-item.result c.origin_of.result c.loop-form.invariant.0 found c.origin_of.ensures c.in-Ok.ensures.does)
