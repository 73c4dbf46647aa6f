use Rattle.std.proofs.Common.{ap, sym, ◌∙◌, subst}
use Rattle.last_ids.specs.Ids.{last_of}
use Rattle.queue_storage.specs.Ids.{last_pushed}
use Rattle.queue_storage.specs.Queues.{Storage}
use Rattle.queue_storage.proofs.Peers.{pushed_counting}
use Rattle.queue_storage.proofs.store.QueueStore.last_ids.Goals as goal

pub returns : goal.returns
returns c = λ r. ap (last_of r) c.of_peer.ensures.value ∙ (sym (pushed_counting c.args.peer r c.self.inside.ids c.self.invariant) ∙ ap (λ (s : Storage). last_pushed c.args.peer r s.ids) c.self.view_is)
