use Rattle.read_hand.proofs.Carrying.{puts, waits}
use Rattle.read_hand.proofs.hand.Hand.put.Goals as goal

pub push_as-requires-clause-rule : goal.push_as-requires-clause-rule
push_as-requires-clause-rule g c = (puts _ _ _ _ c.requires.1, waits _ _ c.requires.1)
