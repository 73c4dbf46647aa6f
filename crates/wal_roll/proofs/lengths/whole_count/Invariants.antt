use Rattle.std.proofs.Common.{◌≡◌, ◌≤◌, ◌+◌, drop}
use Rattle.wal_roll.specs.Kept.{whole}
use Rattle.wal_roll.proofs.lengths.whole_count.Given as goal

abbrev pub invariant-loop-length : goal.invariant-loop-length
invariant-loop-length l = record {
  counted : l.count + whole l.left (drop l.length-index l.lengths) ≡ whole l.bytes l.lengths;
  few : l.count ≤ l.length-index;
}
