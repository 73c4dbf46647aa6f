use Rattle.std.proofs.Common.{◌≡◌, length}
use Rattle.script_text.specs.Lists.{repeats_name}
use Rattle.script_text.proofs.lists.repeats_name.Given as goal

abbrev pub invariant-loop-name : goal.invariant-loop-name
invariant-loop-name l = repeats_name l.rest ≡ repeats_name l.names

abbrev pub decreases-loop-name : goal.decreases-loop-name
decreases-loop-name l = length l.rest
