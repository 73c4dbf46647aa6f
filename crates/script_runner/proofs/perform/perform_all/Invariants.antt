use Rattle.std.proofs.Common.{◌≡◌, ◌*◌, ◌≤◌, false, take, length}
use Rattle.rep_types.specs.declared.ids.Cluster.TheVariants.{A, B}
use Rattle.script_runner.specs.Plans.{Planned}
use Rattle.script_runner.specs.Underway.{Printed}
use Rattle.script_runner.proofs.perform.perform_all.Given as goal

abbrev pub invariant-loop-command : goal.invariant-loop-command
invariant-loop-command g l =
    Printed (take l.command-index l.commands) l.pair.journal l.initial.text.items l.text.items
    × (l.pair.spent ≡ false)
    × (length l.pair.journal ≤ 64 * l.command-index)
    × Planned A (take l.command-index l.commands) (g.V.Vault.tally l.pair.a)
    × Planned B (take l.command-index l.commands) (g.V.Vault.tally l.pair.b)
