use Rattle.std.proofs.Common.{◌≡◌, ◌+◌, ◌-◌, ◌^◌, min, take}
use Rattle.std.specs.Prelude.{sum_by}
use Rattle.script_text.specs.Cells.{draft_bytes}
use Rattle.script_text.proofs.cells.used_with.Given as goal

abbrev pub invariant-loop-draft : goal.invariant-loop-draft
invariant-loop-draft l = l.total ≡ min (l.used + sum_by draft_bytes (take l.draft-index l.drafts)) (2 ^ 32 - 1)
