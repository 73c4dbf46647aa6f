use Rattle.std.proofs.Common.{◌≡◌, drop}
use Rattle.region_events.specs.Unflushed.{logs_after, unflushed_logs}
use Rattle.region_events.proofs.reading.unflushed_logs.Given as goal

abbrev pub invariant-loop-kept : goal.invariant-loop-kept
invariant-loop-kept l = logs_after l.region l.above (drop l.kept-index l.shelf.kept) l.logs ≡ unflushed_logs l.region l.above l.shelf
