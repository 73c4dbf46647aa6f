use Rattle.std.proofs.Common.{sym, ◌∙◌}
use Rattle.pair_core.proofs.Viewed.{status_now}
use Rattle.pair_core.proofs.pair.Pair.status_line.Goals as goal

pub returns : goal.returns
returns g c = record {
  seen = status_now g.V.Vault.contents g.V.Vault.tally c.args.self.now c.self.inside.journal.items c.self.inside.spent c.self.inside.sides c.self.inside.a c.self.inside.b (sym c.self.view_is) c.self.invariant
      _ _ c.in_ok-side_line.ensures.seen c.in_ok-side_line-2.ensures.seen _ _ c.len.ensures (c.len-2.ensures ∙ c.self.inside.journal.ok.0);
}
