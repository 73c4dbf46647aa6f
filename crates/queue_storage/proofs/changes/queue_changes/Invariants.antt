use Rattle.std.proofs.Common.{◌≡◌, ◌++◌, map, take}
use Rattle.queue_storage.specs.Texts.{queue_change}
use Rattle.queue_storage.proofs.changes.queue_changes.Given as goal

abbrev pub invariant-loop-queue : goal.invariant-loop-queue
invariant-loop-queue l = l.changes.items ≡ l.initial.changes.items ++ map queue_change (take l.queue-index l.queues)
