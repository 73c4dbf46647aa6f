use Rattle.std.proofs.Common.{◌≡◌, ◌++◌, filter, map, take}
use Rattle.queue_storage.specs.Changes.{queue_dropped}
use Rattle.queue_storage.specs.Queues.{is_of}
use Rattle.queue_storage.proofs.changes.queues_dropped.Given as goal

abbrev pub invariant-loop-queue : goal.invariant-loop-queue
invariant-loop-queue l = l.changes.items ≡ l.initial.changes.items ++ map queue_dropped (filter (is_of l.peer) (take l.queue-index l.queues))
