use Rattle.std.proofs.Common.{◌+◌, ap, min, ◌∙◌}
use Rattle.pair_core.proofs.Seen.{performed_a}
use Rattle.pair_core.proofs.performing.in_a.Goals as goal

pub returns-clause-does : goal.returns-clause-does
returns-clause-does g c = λ d m reached all.
    performed_a c.args.event.now c.in_ok-reply.reply (g.V.Vault.contents c.args.own.now) (g.V.Vault.contents c.on_side.new.own) d c.args.sides.now c.on_side.new.core c.on_side.new.flights c.saturating_add-sides.result m reached all
    c.in_ok-reply.ensures.does c.requires.room (c.saturating_add-sides.ensures ∙ ap (λ n. min (c.args.sides.now.tickets + n) 4294967295) c.accepted.ensures)
