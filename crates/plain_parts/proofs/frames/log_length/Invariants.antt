use Rattle.std.proofs.Common.{◌≡◌, take}
use Rattle.rep_model.specs.Frames.{commits_length}
use Rattle.rep_model.specs.Commits.{log_commits}
use Rattle.rep_model.specs.Places.{capped}
use Rattle.plain_parts.proofs.frames.log_length.Given as goal

abbrev pub invariant-loop-commit : goal.invariant-loop-commit
invariant-loop-commit l = l.total ≡ capped (commits_length (log_commits l.server l.log (take l.commit-index l.commits)))
