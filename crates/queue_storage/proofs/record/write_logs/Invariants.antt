use Rattle.std.proofs.Common.{◌≡◌, ◌++◌, ◌-◌, ◌<◌}
use Rattle.std.specs.Fmt.{decimal}
use Rattle.queue_storage.specs.Texts.{more_logs}
use Rattle.queue_storage.proofs.record.write_logs.Given as goal

abbrev pub invariant-loop-before : goal.invariant-loop-before
invariant-loop-before l = (l.out.items ≡ l.fn.out.items ++ (decimal l.fn.first ++ more_logs l.fn.first (l.before - l.fn.first))) × (l.fn.last < l.fn.first → l.before ≡ l.fn.first)
