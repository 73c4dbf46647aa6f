use Rattle.std.proofs.Common.{◌≡◌, IfOk, sym}
use Rattle.pair_core.specs.Views.{region_seen}
use Rattle.rep_model.specs.State.{of}
use Rattle.rep_model.specs.declared.machine.Machine.{Machine}
use Rattle.pair_core.proofs.Viewed.{seen_now}
use Rattle.pair_core.proofs.pair.Pair.region_line.Goals as goal

pub returns-in-Some : goal.returns-in-Some
returns-in-Some g c = record {
  seen = seen_now g.V.Vault.contents g.V.Vault.tally c.args.self.now c.self.inside.journal.items c.self.inside.spent c.self.inside.sides c.self.inside.a c.self.inside.b (sym c.self.view_is) c.self.invariant
      c.args.cluster c.in-Some.core.now (sym c.in-Some.ensures) (λ own (m : Machine). IfOk c.region_line.result (λ line. line ≡ region_seen own c.args.region (of own m))) c.region_line.ensures.seen;
}
