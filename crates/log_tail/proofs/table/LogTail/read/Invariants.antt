use Rattle.std.proofs.Common.{◌≡◌, length, take, drop}
use Rattle.log_tail.specs.Knowing.{with_read}
use Rattle.log_tail.proofs.table.LogTail.read.Given as goal

abbrev pub invariant-loop-i : goal.invariant-loop-i
invariant-loop-i l = (l.seat.table_id ≡ l.initial.seat.table_id) × (l.seat.me ≡ (with_read l.initial.seat.me.0 (take l.i l.out), l.initial.seat.me.1))
    × (length l.out ≡ length l.initial.out) × (drop l.i l.out ≡ drop l.i l.initial.out)
