use Rattle.std.proofs.Common.{◌≡◌, sum, take}
use Rattle.wal_roll.proofs.lengths.sum_of_first.Given as goal

abbrev pub invariant-loop-length : goal.invariant-loop-length
invariant-loop-length l = l.total ≡ sum (take l.length-index l.lengths)
