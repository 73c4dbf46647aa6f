use Rattle.std.proofs.Common.{◌≡◌, ℕ, List, Option, Some, IfSome, sym, ap, ◌∙◌, subst}
use Rattle.wire_batch.specs.declared.batch.Batch.{Batch}
use Rattle.shipper.specs.Flights.{FlightsValue, queue_at}
use Rattle.shipper.specs.Queues.{queue_id, outstanding_of}
use Rattle.shipper.specs.declared.queue.QueueId.{QueueId}
use Rattle.shipper.proofs.Standing.{known-out}
use Rattle.shipper.proofs.flights.Flights.outstanding.Goals as goal

pub returns-clause-known : goal.returns-clause-known
returns-clause-known c =
    let q : QueueId = queue_id c.args.cluster c.args.peer c.args.server in
    let inside = known-out q c.self.inside.sent c.self.inside.outstanding.items c.self.invariant.known in
    let seen : IfSome (outstanding_of q c.self.inside.outstanding.items) (λ n. queue_at n c.args.self.now.batches ≡ Some q) =
    subst (λ (bs : List Batch). IfSome (outstanding_of q c.self.inside.outstanding.items) (λ n. queue_at n bs ≡ Some q)) (ap (λ (f : FlightsValue). f.batches) c.self.view_is) inside in
    subst (λ (o : Option ℕ). IfSome o (λ n. queue_at n c.args.self.now.batches ≡ Some q)) (sym (c.outstanding_of.ensures ∙ ap (outstanding_of q) c.deref.ensures.value)) seen
