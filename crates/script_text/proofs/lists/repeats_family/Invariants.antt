use Rattle.std.proofs.Common.{◌≡◌, length}
use Rattle.script_text.specs.Lists.{repeats_family}
use Rattle.script_text.proofs.lists.repeats_family.Given as goal

abbrev pub invariant-loop-family : goal.invariant-loop-family
invariant-loop-family l = repeats_family l.rest ≡ repeats_family l.families

abbrev pub decreases-loop-family : goal.decreases-loop-family
decreases-loop-family l = length l.rest
