use Rattle.std.proofs.Common.{◌≡◌, ◌<◌, ℕ, None, length, sym}
use Rattle.pair_core.specs.Views.{region_seen}
use Rattle.rep_model.specs.State.{of}
use Rattle.rep_model.specs.declared.machine.Machine.{Machine}
use Rattle.pair_core.proofs.Viewed.{seen_now}
use Rattle.pair_core.proofs.pair.Pair.region_count.Goals as goal

pub returns-in-Some-clause-count : goal.returns-in-Some-clause-count
returns-in-Some-clause-count g c =
    seen_now g.V.Vault.contents g.V.Vault.tally c.args.self.now c.self.inside.journal.items c.self.inside.spent c.self.inside.sides c.self.inside.a c.self.inside.b (sym c.self.view_is) c.self.invariant
    c.args.cluster c.in-Some.core.now (sym c.in-Some.ensures) (λ own (m : Machine). c.region_count.result ≡ length (of own m).regions) c.region_count.ensures.count

pub returns-in-Some-clause-above : goal.returns-in-Some-clause-above
returns-in-Some-clause-above g c =
    seen_now g.V.Vault.contents g.V.Vault.tally c.args.self.now c.self.inside.journal.items c.self.inside.spent c.self.inside.sides c.self.inside.a c.self.inside.b (sym c.self.view_is) c.self.invariant
    c.args.cluster c.in-Some.core.now (sym c.in-Some.ensures) (λ own (m : Machine). (r : ℕ) → c.region_count.result < r → region_seen own r (of own m) ≡ None) c.region_count.ensures.above
