use Rattle.std.proofs.Common.{◌≡◌, ◌≤◌, length, ◌-◌}
use Rattle.store_file.specs.Run.{cells, verdict}
use Rattle.store_file.proofs.read.decode_run.Given as goal

abbrev pub invariant-loop : goal.invariant-loop
invariant-loop l = (length l.rest ≤ l.total) × (cells l.total (l.count - l.counter) l.earlier l.rest ≡ verdict l.bytes)
