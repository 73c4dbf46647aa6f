use Rattle.std.proofs.Common.{sym, ap, ◌∙◌}
use Rattle.pair_core.specs.Served.{is_b}
use Rattle.pair_core.proofs.Seen.{first_of_two}
use Rattle.pair_core.proofs.performing.perform.Goals as goal

pub in_a-requires-clause-here : goal.in_a-requires-clause-here
in_a-requires-clause-here g c = first_of_two c.args.event.now _ c.args.sides.now c.requires.worded c.requires.standing (ap is_b (sym c.cluster_of.ensures) ∙ (sym c.is_b.ensures ∙ c.if-is_b.false))
