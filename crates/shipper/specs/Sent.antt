-- Batches that are kept as their bytes.
use Rattle.std.specs.Prelude.{ℕ, ◌≡◌, List, []}
use Rattle.rep_types.specs.declared.ids.Cluster.TheVariants.{A}
use Rattle.wire_batch.specs.Answers.{IsSpelled}
use Rattle.wire_batch.specs.Grammar.{verdict_of}
use Rattle.wire_batch.specs.Reading.{Verdict, Whole, Broken}
use Rattle.wire_batch.specs.declared.batch.Batch.{Batch}
use Rattle.shipper.specs.declared.queue.QueueId.{QueueId}
use Rattle.shipper.specs.declared.sent.Kept.{Kept}
use Rattle.shipper.specs.Queues.{queue_of}

-- what bytes stand for that are no batch; none such are kept
abbrev pub no_batch : Batch
no_batch = record { cluster = A; peer = 1; server = 1; flight = 1; forms = [] }

abbrev pub batch_in : Verdict Batch → Batch
batch_in (Whole b end) = b
batch_in (Broken at field) = no_batch

-- the batch that the bytes are
abbrev pub batch_kept : Kept → Batch
batch_kept k = batch_in (verdict_of k.bytes)

abbrev pub IsWhole : QueueId → List ℕ → Verdict Batch → Type 0
IsWhole queue bytes (Whole b end) = IsSpelled bytes b × (queue_of b ≡ queue)
IsWhole queue bytes (Broken at field) = ⊥

-- the bytes are a batch of the queue
abbrev pub IsKept : Kept → Type 0
IsKept k = IsWhole k.queue k.bytes (verdict_of k.bytes)
