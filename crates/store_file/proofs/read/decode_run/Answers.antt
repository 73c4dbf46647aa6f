use Rattle.std.proofs.Common.{◌≡◌, ◌<◌, ◌-◌, length, drop, Ok, sym, ◌∙◌, arith}
use Rattle.std.proofs.lemmas.Bool.{eqb-true, eqb-false}
use Rattle.std.proofs.lemmas.List.{take_all, length-drop}
use Rattle.std.proofs.lemmas.Result.{err_from_is_err_and}
use Rattle.store_file.specs.Run.{verdict}
use Rattle.store_file.proofs.Held.{typed_so, short_so}
use Rattle.store_file.proofs.Judged.{too_short, begins_so, goes_so, stops_so, ends_so, ends_here, goes_on}
use Rattle.store_file.proofs.Ordered.{order_so}
use Rattle.store_file.proofs.read.decode_run.Goals as goal

pub returns-then-bytes-lt8-clause-does : goal.returns-then-bytes-lt8-clause-does
returns-then-bytes-lt8-clause-does c = too_short c.args.bytes.now c.if-bytes-lt8.true

pub loop-init : goal.loop-init
loop-init c =
    let bytes = c.args.bytes.now in
    begins_so bytes _ c.read_u64-count.result c.new-earlier.result c.if-bytes-lt8.false c.read_u64-count.ensures (take_all (length bytes - 8) (drop 8 bytes) (omega (arith, length-drop 8 bytes))) c.new-earlier.ensures

pub loop-preserved : goal.loop-preserved
loop-preserved c =
    let step = c.in_ok-rest.ensures in
    (omega (arith, step.0, c.loop.invariant.0), goes_so (length c.args.bytes.now) c.read_u64-count.result c.loop.counter c.loop.earlier _ c.loop.rest.now _ (verdict c.args.bytes.now) c.loop-test.true c.loop.invariant.1 step.1)

pub returns-in_err-rest-clause-does : goal.returns-in_err-rest-clause-does
returns-in_err-rest-clause-does c =
    let p = err_from_is_err_and c.from_residual.result c.from_residual.ensures.1 in
    rw (p.1, p.2) (stops_so (length c.args.bytes.now) c.read_u64-count.result c.loop.counter c.loop.earlier c.loop.rest.now (verdict c.args.bytes.now) c.in_err-rest.field-0.0 c.loop-test.true c.loop.invariant.1 c.in_err-rest.ensures)

pub returns-then-is_empty-clause-does : goal.returns-then-is_empty-clause-does
returns-then-is_empty-clause-does c =
    let none : length c.loop.rest.now ≡ 0 = eqb-true _ 0 (sym c.is_empty.ensures ∙ c.if-is_empty.true) in
    ends_so (length c.args.bytes.now) c.read_u64-count.result c.loop.counter c.loop.earlier c.loop.rest.now (verdict c.args.bytes.now) c.loop-test.false c.loop.invariant.1
    ∙ ends_here (length c.args.bytes.now) c.loop.earlier c.loop.rest.now none

pub returns-else-is_empty-clause-does : goal.returns-else-is_empty-clause-does
returns-else-is_empty-clause-does c =
    let some : 0 < length c.loop.rest.now = omega (arith, eqb-false (length c.loop.rest.now) 0 (sym c.is_empty.ensures ∙ c.if-is_empty.false)) in
    ends_so (length c.args.bytes.now) c.read_u64-count.result c.loop.counter c.loop.earlier c.loop.rest.now (verdict c.args.bytes.now) c.loop-test.false c.loop.invariant.1
    ∙ goes_on (length c.args.bytes.now) c.loop.earlier c.loop.rest.now some

pub returns-then-is_empty-clause-order : goal.returns-then-is_empty-clause-order
returns-then-is_empty-clause-order c = order_so (Ok c.loop.earlier) c.args.bytes.now (returns-then-is_empty-clause-does c)

pub returns-then-is_empty-clause-typed : goal.returns-then-is_empty-clause-typed
returns-then-is_empty-clause-typed c = typed_so (Ok c.loop.earlier) c.args.bytes.now (λ i. omega (arith, c.type_inv.bytes i)) (returns-then-is_empty-clause-does c)

pub returns-then-is_empty-clause-short : goal.returns-then-is_empty-clause-short
returns-then-is_empty-clause-short c = short_so (Ok c.loop.earlier) c.args.bytes.now (λ i. omega (arith, c.type_inv.bytes i)) (returns-then-is_empty-clause-does c)
