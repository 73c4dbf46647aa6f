use Rattle.std.proofs.Common.{◌≡◌, drop}
use Rattle.rep_model.specs.Queues.{parent_need}
use Rattle.plain_parts.proofs.queues.parent_need.Given as goal

abbrev pub invariant-loop-parent : goal.invariant-loop-parent
invariant-loop-parent l = parent_need l.peer l.commits (drop l.parent-index l.parents) ≡ parent_need l.peer l.commits l.parents
