use Rattle.std.proofs.Common.{◌≡◌, ◌++◌, false}
use Rattle.std.specs.List.{flat_map}
use Rattle.rep_model.specs.Runs.{state_of}
use Rattle.script_text.specs.Drains.{numbers}
use Rattle.script_lines.specs.Views.{queue_shown}
use Rattle.script_lines.proofs.queues.peer_lines.Given as goal

abbrev pub invariant-loop-at : goal.invariant-loop-at
invariant-loop-at g l = l.pair.spent ≡ false → l.out.items ≡ l.initial.out.items ++ flat_map (queue_shown l.cluster (state_of l.pair.journal) l.peer) (numbers l.at)
