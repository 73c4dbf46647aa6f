use Rattle.std.proofs.Common.{◌≡◌, ◌++◌, drop}
use Rattle.queue_events.specs.Sending.{taken_kept}
use Rattle.queue_events.proofs.batching.take.Given as goal

abbrev pub invariant-loop-entry : goal.invariant-loop-entry
invariant-loop-entry l = l.taken ++ taken_kept l.left l.room (drop l.entry-index l.kept) ≡ taken_kept l.most 65536 l.kept
