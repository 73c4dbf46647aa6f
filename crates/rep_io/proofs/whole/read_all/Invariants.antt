use Rattle.std.proofs.Common.{◌≤◌, ◌+◌, ◌-◌, length}
use Rattle.rep_io.specs.Io.{Gives}
use Rattle.rep_io.proofs.whole.read_all.Given as goal

abbrev pub invariant-loop-n : goal.invariant-loop-n
invariant-loop-n g l = record {
  gives : Gives (g.S.Source.left l.initial.input) (g.S.Source.left l.input) l.text;
  few : length l.text ≤ l.most;
  counts : g.S.Source.fault_count l.initial.input ≤ g.S.Source.fault_count l.input;
}

abbrev pub decreases-loop-n : goal.decreases-loop-n
decreases-loop-n g l = l.most + 1 - length l.text
