use Rattle.std.proofs.Common.{rules}
use Rattle.read_hand.proofs.Carrying.{meets, leaves}
use Rattle.read_hand.proofs.hand.Hand.meet.Goals as goal

pub absorb-requires-clause-rule : goal.absorb-requires-clause-rule
absorb-requires-clause-rule c = meets _ _ _ _ c.requires.taker.1 c.requires.giver.1

pub learn_as-requires-clause-rule : goal.learn_as-requires-clause-rule
learn_as-requires-clause-rule c = leaves _ _ (search rules)
