use Rattle.std.proofs.Common.{[], ◌∷◌, ◌++◌, take, sym, ap, ◌∙◌, arith}
use Rattle.std.proofs.lemmas.List.{take_more}
use Rattle.rep_types.specs.declared.ids.Cluster.TheVariants.{A, B}
use Rattle.script_text.specs.declared.command.Command.{Command}
use Rattle.script_runner.proofs.Planning.{planned-more, short-room}
use Rattle.script_runner.proofs.Printing.{Printed-new, Printed-more}
use Rattle.script_runner.proofs.perform.perform_all.Goals as goal

pub loop-command-init : goal.loop-command-init
loop-command-init g c = (rw c.requires.fresh (Printed-new c.args.text.now.items), c.requires.usable, rw c.requires.fresh (omega arith), c.requires.planned_a, c.requires.planned_b)

pub loop-command-preserved : goal.loop-command-preserved
loop-command-preserved g c =
    let made = c.in_ok-perform_printed.ensures.printed in
    let few = c.in_ok-perform_printed.ensures.few in
    let so_far = c.loop-command.invariant.2 in
    let listed = take_more c.args.commands.now c.loop-command.command-index c.command-item.result (omega arith) ∙ ap (λ (x : Command). take c.loop-command.command-index c.args.commands.now ++ x ∷ []) (sym c.command-item.is) in (
      Printed-more _ _ _ _ made.0 _ _ _ _ c.loop-command.invariant.0 listed made.1 made.2 made.3,
      c.in_ok-perform_printed.ensures.usable,
      omega (arith, few, so_far),
      planned-more A (take c.loop-command.command-index c.args.commands.now) _ c.command-item.result (g.V.Vault.tally c.loop-command.pair.a) (g.V.Vault.tally c.perform_printed.new.pair.a) listed c.loop-command.invariant.3 c.in_ok-perform_printed.ensures.planned_a,
      planned-more B (take c.loop-command.command-index c.args.commands.now) _ c.command-item.result (g.V.Vault.tally c.loop-command.pair.b) (g.V.Vault.tally c.perform_printed.new.pair.b) listed c.loop-command.invariant.4 c.in_ok-perform_printed.ensures.planned_b,
    )

pub perform_printed-requires-clause-room_a : goal.perform_printed-requires-clause-room_a
perform_printed-requires-clause-room_a g c = short-room A c.loop-command.command-index c.args.commands.now (g.V.Vault.tally c.loop-command.pair.a) c.requires.room c.loop-command.invariant.3

pub perform_printed-requires-clause-room_b : goal.perform_printed-requires-clause-room_b
perform_printed-requires-clause-room_b g c = short-room B c.loop-command.command-index c.args.commands.now (g.V.Vault.tally c.loop-command.pair.b) c.requires.room c.loop-command.invariant.4
