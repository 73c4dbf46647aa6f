use Rattle.read_hand.proofs.Carrying.{takes, leaves}
use Rattle.read_hand.proofs.hand.Hand.take.Goals as goal

pub pop_as-requires-clause-rule : goal.pop_as-requires-clause-rule
pop_as-requires-clause-rule g c = (takes _ _ c.requires.1, leaves _ _ c.requires.1)
