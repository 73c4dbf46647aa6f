use Rattle.last_ids.proofs.Placing.{rising-after, each-after}
use Rattle.last_ids.proofs.ids.LastIds.set.Goals as goal

pub invariant_of-self : goal.invariant_of-self
invariant_of-self c = rising-after c.put.result _ _ _ c.put.ensures.ok c.put.ensures.err c.self.invariant

pub returns-clause-each : goal.returns-clause-each
returns-clause-each c = rw (← c.self.view_is) (each-after c.put.result _ _ _ c.put.ensures.ok)
