use Rattle.std.proofs.Common.{◌≡◌, false, find, ◌∙◌, sym, refl}
use Rattle.cluster_core.specs.Lines.{lives}
use Rattle.cluster_core.specs.Stands.{is_station}
use Rattle.cluster_core.proofs.QueueLookups.{lives_is}
use Rattle.rep_model.specs.Keyed.{if_some, given}
use Rattle.rep_model.specs.State.{of, is_server}
use Rattle.rep_model.specs.declared.machine.Machine.{Machine}
use Rattle.rep_model.specs.declared.machine.Side.{Side}
use Rattle.rep_model.specs.declared.machine.Server.{Server}
use Rattle.pair_core.proofs.Viewed.{seen_now, unseen_now}
use Rattle.pair_core.proofs.pair.Pair.is_live.Goals as goal

pub returns-in-Some : goal.returns-in-Some
returns-in-Some g c = λ e. c.is_live.ensures
    ∙ seen_now g.V.Vault.contents g.V.Vault.tally c.args.self.now c.self.inside.journal.items c.self.inside.spent c.self.inside.sides c.self.inside.a c.self.inside.b (sym c.self.view_is) c.self.invariant
    c.args.cluster c.in-Some.core.now (sym c.in-Some.ensures)
    (λ own (m : Machine). lives c.args.server c.in-Some.core.now.stations ≡ if_some (find (is_server c.args.server) (of own m).servers) (λ (srv : Server). srv.live))
    (λ way k m reached here stands. lives_is k (of c.in-Some.core.now.own m) c.args.server (find (is_station c.args.server) c.in-Some.core.now.stations) (find (is_server c.args.server) (of c.in-Some.core.now.own m).servers) (stands.servers c.args.server)) e

pub returns-in-None : goal.returns-in-None
unfolding given
returns-in-None g c = unseen_now g.V.Vault.contents g.V.Vault.tally c.args.self.now c.self.inside.journal.items c.self.inside.spent c.self.inside.sides c.self.inside.a c.self.inside.b (sym c.self.view_is) c.self.invariant
    c.args.cluster (sym c.in-None.ensures) (λ (side : Side). false ≡ if_some (find (is_server c.args.server) side.servers) (λ (srv : Server). srv.live)) refl
