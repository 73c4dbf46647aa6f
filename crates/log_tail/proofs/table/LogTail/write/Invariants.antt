use Rattle.std.proofs.Common.{◌≡◌, take}
use Rattle.log_tail.specs.Knowing.{with_ready}
use Rattle.log_tail.proofs.table.LogTail.write.Given as goal

abbrev pub invariant-loop-i : goal.invariant-loop-i
invariant-loop-i l = (l.seat.table_id ≡ l.initial.seat.table_id) × (l.seat.me ≡ (with_ready l.initial.seat.me.0 (take l.i l.words), l.initial.seat.me.1))
