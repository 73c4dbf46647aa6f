use Rattle.std.proofs.Common.{◌≡◌, None, refl, sym}
use Rattle.pair_core.specs.Views.{queue_seen}
use Rattle.rep_model.specs.Keyed.{given}
use Rattle.rep_model.specs.State.{of}
use Rattle.rep_model.specs.declared.machine.Machine.{Machine}
use Rattle.rep_model.specs.declared.machine.Side.{Side}
use Rattle.pair_core.proofs.Viewed.{seen_now, unseen_now}
use Rattle.pair_core.proofs.pair.Pair.queue_view.Goals as goal

pub returns-in-Some : goal.returns-in-Some
returns-in-Some g c = record {
  seen = seen_now g.V.Vault.contents g.V.Vault.tally c.args.self.now c.self.inside.journal.items c.self.inside.spent c.self.inside.sides c.self.inside.a c.self.inside.b (sym c.self.view_is) c.self.invariant
      c.args.cluster c.in-Some.core.now (sym c.in-Some.ensures) (λ own (m : Machine). c.queue_view.result ≡ queue_seen c.args.peer c.args.server (of own m)) c.queue_view.ensures.seen;
}

pub returns-in-None : goal.returns-in-None
unfolding given
returns-in-None g c = record {
  seen = unseen_now g.V.Vault.contents g.V.Vault.tally c.args.self.now c.self.inside.journal.items c.self.inside.spent c.self.inside.sides c.self.inside.a c.self.inside.b (sym c.self.view_is) c.self.invariant
      c.args.cluster (sym c.in-None.ensures) (λ (side : Side). None ≡ queue_seen c.args.peer c.args.server side) refl;
}
