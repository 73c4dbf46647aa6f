use Rattle.queue_storage.proofs.Peers.{ids_set}
use Rattle.queue_storage.proofs.ids.set_of.Goals as goal

pub returns-clause-pushed : goal.returns-clause-pushed
returns-clause-pushed c =
    ids_set c.args.peer c.place.result c.args.ids.now c.at_mut.result.now c.set_known.new.ids c.args.new.now c.place.ensures.value c.requires.peers c.set_known.ensures.order c.at_mut.ensures.value c.set_known.ensures.value
