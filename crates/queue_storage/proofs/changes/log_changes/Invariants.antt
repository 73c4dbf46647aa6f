use Rattle.std.proofs.Common.{◌≡◌, ◌++◌, filter, map, take}
use Rattle.queue_storage.specs.Changes.{lists_logs}
use Rattle.queue_storage.specs.Texts.{queue_change}
use Rattle.queue_storage.proofs.changes.log_changes.Given as goal

abbrev pub invariant-loop-queue : goal.invariant-loop-queue
invariant-loop-queue l = l.changes.items ≡ l.initial.changes.items ++ map queue_change (filter (lists_logs l.server) (take l.queue-index l.queues))
