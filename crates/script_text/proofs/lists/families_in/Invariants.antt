use Rattle.std.proofs.Common.{◌≡◌, length}
use Rattle.script_text.specs.Lists.{family_of}
use Rattle.script_text.specs.Lines.{pieces_of}
use Rattle.script_text.specs.Lists.{all_of}
use Rattle.script_text.proofs.Listing.{more}
use Rattle.script_text.proofs.lists.families_in.Given as goal

abbrev pub invariant-loop-rest : goal.invariant-loop-rest
invariant-loop-rest l = more l.families (all_of family_of (pieces_of 44 l.rest)) ≡ all_of family_of (pieces_of 44 l.word)

abbrev pub decreases-loop-rest : goal.decreases-loop-rest
decreases-loop-rest l = length l.rest
