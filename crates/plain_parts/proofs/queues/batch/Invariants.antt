use Rattle.std.proofs.Common.{◌≡◌, ◌++◌, drop, filter}
use Rattle.rep_model.specs.Queues.{is_queued, taken, batch}
use Rattle.plain_parts.proofs.queues.batch.Given as goal

abbrev pub invariant-loop-commit : goal.invariant-loop-commit
invariant-loop-commit l =
    l.taken ++ taken l.peer l.commits l.left l.room l.taken (filter (is_queued l.peer l.server) (drop l.commit-index l.waiting)) ≡ batch l.peer l.server l.most l.commits
