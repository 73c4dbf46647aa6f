use Rattle.std.proofs.Common.{◌≡◌, length}
use Rattle.script_text.specs.Cells.{repeats_column}
use Rattle.script_text.proofs.cells.repeats_column.Given as goal

abbrev pub invariant-loop-draft : goal.invariant-loop-draft
invariant-loop-draft l = repeats_column l.rest ≡ repeats_column l.drafts

abbrev pub decreases-loop-draft : goal.decreases-loop-draft
decreases-loop-draft l = length l.rest
