use Rattle.std.proofs.Common.{◌≡◌}
use Rattle.rep_model.specs.Commits.{settled}
use Rattle.plain_parts.proofs.settle.settle.Given as goal

abbrev pub invariant-loop-entry : goal.invariant-loop-entry
invariant-loop-entry l =
    settled l.cluster l.server l.log l.entry-iterator.rest.items l.machine ≡ settled l.cluster l.server l.log l.initial.entry-iterator.rest.items l.initial.machine
