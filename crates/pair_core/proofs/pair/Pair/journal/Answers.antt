use Rattle.std.proofs.Common.{sym}
use Rattle.pair_core.proofs.Storing.{stored_now, settled_now}
use Rattle.pair_core.proofs.pair.Pair.journal.Goals as goal

pub returns-clause-stored : goal.returns-clause-stored
returns-clause-stored g c = stored_now g.V.Vault.contents g.V.Vault.tally c.args.self.now c.self.inside.journal.items c.self.inside.spent c.self.inside.sides c.self.inside.a c.self.inside.b (sym c.self.view_is) c.self.invariant

pub returns-clause-settled : goal.returns-clause-settled
returns-clause-settled g c = settled_now g.V.Vault.contents g.V.Vault.tally c.args.self.now c.self.inside.journal.items c.self.inside.spent c.self.inside.sides c.self.inside.a c.self.inside.b (sym c.self.view_is) c.self.invariant
