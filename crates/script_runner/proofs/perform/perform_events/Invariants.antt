use Rattle.std.proofs.Common.{◌≡◌, ◌+◌, ◌-◌, ◌≤◌, false, length}
use Rattle.rep_model.specs.Runs.{state_of}
use Rattle.script_runner.proofs.Performing.{SoFar}
use Rattle.script_runner.proofs.perform.perform_events.Given as goal

abbrev pub invariant-loop-replies : goal.invariant-loop-replies
invariant-loop-replies g l =
    SoFar l.command (state_of l.initial.pair.journal) l.initial.pair.journal l.pair.journal l.replies
    × (l.pair.spent ≡ false)
    × (length l.pair.journal ≡ length l.initial.pair.journal + length l.replies)
    × (length l.replies ≤ 64)
    × ((g.V.Vault.tally l.pair.a).planned ≡ (g.V.Vault.tally l.initial.pair.a).planned)
    × ((g.V.Vault.tally l.pair.b).planned ≡ (g.V.Vault.tally l.initial.pair.b).planned)

abbrev pub decreases-loop-replies : goal.decreases-loop-replies
decreases-loop-replies g l = 64 - length l.replies
