use Rattle.std.proofs.Common.{◌≡◌, ◌≤◌, filter, length}
use Rattle.rep_model.specs.Runs.{state_of}
use Rattle.script_text.specs.Drains.{numbers, lives}
use Rattle.script_runner.proofs.asked.live_servers.Given as goal

abbrev pub invariant-loop-at : goal.invariant-loop-at
invariant-loop-at g l = (l.live ≡ filter (lives l.cluster (state_of l.pair.journal)) (numbers l.at)) × (length l.live ≤ l.at)
