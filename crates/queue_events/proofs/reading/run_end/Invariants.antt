use Rattle.std.proofs.Common.{◌+◌, ◌≤◌}
use Rattle.queue_events.proofs.reading.run_end.Given as goal

abbrev pub invariant-loop-next : goal.invariant-loop-next
invariant-loop-next l = l.first.offset + l.first.length ≤ l.end
