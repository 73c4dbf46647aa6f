use Rattle.std.proofs.Common.{sym}
use Rattle.pair_core.proofs.Storing.{stored_now, covered_now, told_now}
use Rattle.pair_core.proofs.pair.Pair.into_stores.Goals as goal

pub returns-clause-stored : goal.returns-clause-stored
returns-clause-stored g c = stored_now g.V.Vault.contents g.V.Vault.tally c.args.self c.self.inside.journal.items c.self.inside.spent c.self.inside.sides c.self.inside.a c.self.inside.b (sym c.self.view_is) c.self.invariant

pub returns-clause-covers_a : goal.returns-clause-covers_a
returns-clause-covers_a g c = (covered_now g.V.Vault.contents g.V.Vault.tally c.args.self c.self.inside.journal.items c.self.inside.spent c.self.inside.sides c.self.inside.a c.self.inside.b (sym c.self.view_is) c.self.invariant).0

pub returns-clause-covers_b : goal.returns-clause-covers_b
returns-clause-covers_b g c = (covered_now g.V.Vault.contents g.V.Vault.tally c.args.self c.self.inside.journal.items c.self.inside.spent c.self.inside.sides c.self.inside.a c.self.inside.b (sym c.self.view_is) c.self.invariant).1

pub returns-clause-told_a : goal.returns-clause-told_a
returns-clause-told_a g c = (told_now g.V.Vault.contents g.V.Vault.tally c.args.self c.self.inside.journal.items c.self.inside.spent c.self.inside.sides c.self.inside.a c.self.inside.b (sym c.self.view_is) c.self.invariant).0

pub returns-clause-told_b : goal.returns-clause-told_b
returns-clause-told_b g c = (told_now g.V.Vault.contents g.V.Vault.tally c.args.self c.self.inside.journal.items c.self.inside.spent c.self.inside.sides c.self.inside.a c.self.inside.b (sym c.self.view_is) c.self.invariant).1
