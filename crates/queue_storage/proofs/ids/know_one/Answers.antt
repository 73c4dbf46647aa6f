use Rattle.std.proofs.Common.{sym}
use Rattle.last_ids.proofs.Placing.{rising-after}
use Rattle.queue_storage.proofs.Counting.{counting_after}
use Rattle.queue_storage.proofs.ids.know_one.Goals as goal

pub returns-in-None-clause-order : goal.returns-in-None-clause-order
returns-in-None-clause-order c = rising-after c.set.result _ c.args.ids.now c.set.new.self c.set.ensures.ok c.set.ensures.err c.requires

pub returns-in-None-clause-same : goal.returns-in-None-clause-same
returns-in-None-clause-same c = counting_after c.set.result c.args.region c.args.ids.now c.set.new.self c.set.ensures.ok c.set.ensures.err (sym c.in-None.ensures)
