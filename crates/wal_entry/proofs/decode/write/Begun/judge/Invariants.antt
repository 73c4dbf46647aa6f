use Rattle.std.proofs.Common.{◌≡◌, length}
use Rattle.wal_entry.specs.Resumed.{IsBegun}
use Rattle.wal_entry.proofs.decode.write.Begun.judge.Given as goal

abbrev pub invariant-loop : goal.invariant-loop
invariant-loop l = IsBegun l.self l.bytes × (length l.self.cells ≡ l.counter) × (l.self.heading ≡ l.fn.self.heading)
