use Rattle.std.proofs.Common.{◌≡◌, rules, sym, None}
use Rattle.region_barriers.specs.History.{History}
use Rattle.std.specs.List.Sorted.{IsNonDecreasing}
use Rattle.serial_gate.specs.Gate.{reach}
use Rattle.serial_gate.proofs.Passing.{gate_first, gate_later, gate_before}
use Rattle.serial_gate.proofs.gate.late.Goals as goal

pub returns-in_err-range : goal.returns-in_err-range
returns-in_err-range c =
    let view = c.args.view.now in
    let none : c.from_residual-in_err-range.result ≡ None = search rules in
    rw none (gate_before view.cluster view.barriers.now (reach view.last.now c.args.so_far.now) c.args.entry.now c.in_ok-barriers.barriers.now (sym c.in_ok-barriers.ensures)
    (c.in_err-range.ensures.none.0 (search rules)))

pub returns-then-range : goal.returns-then-range
returns-then-range c =
    let view = c.args.view.now in
    let h : History = c.in_ok-barriers.barriers.now in
    let order : IsNonDecreasing h.barriers = rw c.barriers-order.ensures.value at c.barriers-order.ensures.order in
    rw (c.late_parent.ensures, c.as_slice.ensures.value, c.parents.ensures)
    (gate_first view.cluster view.barriers.now (reach view.last.now c.args.so_far.now) c.args.entry.now h c.in_ok-range.range (sym c.in_ok-barriers.ensures) order c.in_ok-range.ensures.found c.if-range.true)

pub returns-else-range : goal.returns-else-range
returns-else-range c =
    let view = c.args.view.now in
    let h : History = c.in_ok-barriers.barriers.now in
    let order : IsNonDecreasing h.barriers = rw c.barriers-order.ensures.value at c.barriers-order.ensures.order in
    rw c.late_self.ensures
    (gate_later view.cluster view.barriers.now (reach view.last.now c.args.so_far.now) c.args.entry.now h c.in_ok-range.range (sym c.in_ok-barriers.ensures) order c.in_ok-range.ensures.found c.if-range.false)
