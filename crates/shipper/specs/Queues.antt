-- Queues, and the outstanding flight of each.
use Rattle.std.specs.Prelude.{ℕ, ◌==◌, ◌&&◌, not, Bool, true, false, List, Option, find, filter}
use Rattle.std.specs.Option.{option_map}
use Rattle.rep_types.specs.declared.ids.Cluster.{Cluster}
use Rattle.rep_types.specs.declared.ids.Cluster.TheVariants.{A, B, C}
use Rattle.wire_batch.specs.declared.batch.Batch.{Batch}
use Rattle.shipper.specs.declared.queue.Outstanding.{Outstanding}
use Rattle.shipper.specs.declared.queue.QueueId.{QueueId}

abbrev pub same_cluster : Cluster → Cluster → Bool
same_cluster A A = true
same_cluster B B = true
same_cluster C C = true
same_cluster c d = false

abbrev pub same_queue : QueueId → QueueId → Bool
same_queue p q = same_cluster p.cluster q.cluster && p.peer == q.peer && p.server == q.server

abbrev pub queue_id : Cluster → ℕ → ℕ → QueueId
queue_id cluster peer server = record { cluster = cluster; peer = peer; server = server }

-- the queue that a batch is of
abbrev pub queue_of : Batch → QueueId
queue_of b = queue_id b.cluster b.peer b.server

abbrev pub is_of : QueueId → Outstanding → Bool
is_of q o = same_queue q o.queue

-- the outstanding flight of a queue, if it has one
abbrev pub outstanding_of : QueueId → List Outstanding → Option ℕ
outstanding_of q os = option_map (λ (o : Outstanding). o.flight) (find (is_of q) os)

-- those of the other queues
abbrev pub without : QueueId → List Outstanding → List Outstanding
without q os = filter (λ (o : Outstanding). not (is_of q o)) os
