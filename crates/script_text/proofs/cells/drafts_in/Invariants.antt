use Rattle.std.proofs.Common.{◌≡◌, length}
use Rattle.script_text.specs.Cells.{draft_of}
use Rattle.script_text.specs.Lists.{all_of}
use Rattle.script_text.specs.Words.{words_of}
use Rattle.script_text.proofs.Listing.{more}
use Rattle.script_text.proofs.cells.drafts_in.Given as goal

abbrev pub invariant-loop-word : goal.invariant-loop-word
invariant-loop-word l = more l.drafts (all_of draft_of (words_of l.rest)) ≡ all_of draft_of (words_of l.text)

abbrev pub decreases-loop-word : goal.decreases-loop-word
decreases-loop-word l = length l.rest
