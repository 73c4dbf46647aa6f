use Rattle.std.proofs.Common.{◌≡◌, map, take}
use Rattle.queue_storage.specs.Queues.{logged}
use Rattle.queue_storage.proofs.changes.queues_logged.Given as goal

abbrev pub invariant-loop-queue : goal.invariant-loop-queue
invariant-loop-queue l = l.next ≡ map (logged l.server l.log) (take l.queue-index l.queues)
