use Rattle.std.proofs.Common.{◌≤◌, length, refl, ap, arith}
use Rattle.std.proofs.lemmas.Result.{err_from_is_err_and}
use Rattle.wal_entry.specs.declared.decode.edit.Heading.{Heading}
use Rattle.wal_entry.specs.Steps.{place}
use Rattle.wal_entry.proofs.Resumed.{frame_ends, padding_stops}
use Rattle.wal_entry.proofs.decode.write.Begun.judge.Goals as goal

pub returns-in_err-next-clause-ends : goal.returns-in_err-next-clause-ends
returns-in_err-next-clause-ends c =
    let all : c.loop.self.heading.count ≤ length c.loop.self.cells = omega (arith, c.loop-test.false, c.loop.invariant.1, ap (λ (h : Heading). h.count) c.loop.invariant.2) in
    let p = err_from_is_err_and c.from_residual-in_err-next.result c.from_residual-in_err-next.ensures.1 in
    rw (p.1, p.2) (padding_stops c.loop.self c.args.bytes.now c.in_err-next.field-0.0 c.loop.invariant.0 all (rw c.here.ensures at c.in_err-next.ensures))

pub returns-clause-ends : goal.returns-clause-ends
returns-clause-ends c =
    let all : c.loop.self.heading.count ≤ length c.loop.self.cells = omega (arith, c.loop-test.false, c.loop.invariant.1, ap (λ (h : Heading). h.count) c.loop.invariant.2) in
    let q = place c.in_ok-next.next in
    (q, frame_ends c.loop.self c.args.bytes.now q c.loop.invariant.0 all (rw c.here.ensures at c.in_ok-next.ensures), refl)
