use Rattle.std.proofs.Common.{◌≡◌, ◌++◌, take}
use Rattle.plain_parts.proofs.copies.add_commits.Given as goal

abbrev pub invariant-loop-commit : goal.invariant-loop-commit
invariant-loop-commit l = l.list ≡ l.initial.list ++ take l.commit-index l.commits
