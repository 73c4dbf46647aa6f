use Rattle.last_ids.proofs.Placing.{rising-after}
use Rattle.queue_storage.proofs.ids.set_one.Goals as goal

pub returns-clause-order : goal.returns-clause-order
returns-clause-order c = rising-after c.set.result _ c.args.ids.now c.set.new.self c.set.ensures.ok c.set.ensures.err c.requires.order
