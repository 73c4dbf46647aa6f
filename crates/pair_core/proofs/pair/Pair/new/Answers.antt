use Rattle.pair_core.proofs.Beginning.{pair_begins}
use Rattle.pair_core.proofs.pair.Pair.new.Goals as goal

pub invariant_of-result : goal.invariant_of-result
invariant_of-result g c = rw (c.in-Ok.ensures, c.new-2.ensures.items) (pair_begins g.V.Vault.contents g.V.Vault.tally c.args.a c.args.b c.requires.a_is_new c.requires.b_is_new)
