use Rattle.std.proofs.Common.{◌≤◌, ◌-◌, length, take}
use Rattle.rep_io.specs.Io.{Appends}
use Rattle.rep_io.proofs.whole.write_all.Given as goal

abbrev pub invariant-loop-at : goal.invariant-loop-at
invariant-loop-at g l = record {
  within : l.at ≤ length l.piece;
  appends : Appends (g.K.Sink.held l.initial.out) (g.K.Sink.held l.out) (take l.at l.piece);
  counts : g.K.Sink.fault_count l.initial.out ≤ g.K.Sink.fault_count l.out;
}

abbrev pub decreases-loop-at : goal.decreases-loop-at
decreases-loop-at g l = length l.piece - l.at
