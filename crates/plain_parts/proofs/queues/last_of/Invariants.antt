use Rattle.std.proofs.Common.{◌≡◌, None, drop}
use Rattle.std.specs.Option.{option_copied}
use Rattle.rep_model.specs.Queues.{last_of}
use Rattle.plain_parts.proofs.queues.last_of.Given as goal

abbrev pub invariant-loop-commit : goal.invariant-loop-commit
invariant-loop-commit l = last_of l.region (drop l.commit-index l.commits) (option_copied l.found) ≡ last_of l.region l.commits None
