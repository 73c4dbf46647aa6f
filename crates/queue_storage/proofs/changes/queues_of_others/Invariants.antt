use Rattle.std.proofs.Common.{◌≡◌, filter, take}
use Rattle.queue_storage.specs.Queues.{is_of_another}
use Rattle.queue_storage.proofs.changes.queues_of_others.Given as goal

abbrev pub invariant-loop-queue : goal.invariant-loop-queue
invariant-loop-queue l = l.next ≡ filter (is_of_another l.peer) (take l.queue-index l.queues)
