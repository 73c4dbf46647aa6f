use Rattle.std.proofs.Common.{◌≡◌, ◌++◌, map}
use Rattle.script_text.specs.Cells.{cell_of}
use Rattle.script_text.proofs.cells.cells_of.Given as goal

abbrev pub invariant-loop-draft : goal.invariant-loop-draft
invariant-loop-draft l = l.cells ++ map cell_of l.draft-iterator.rest.items ≡ map cell_of l.fn.drafts
