use Rattle.std.proofs.Common.{◌≡◌, take}
use Rattle.rep_model.specs.Frames.{pending_length}
use Rattle.rep_model.specs.Places.{capped}
use Rattle.plain_parts.proofs.frames.pending_length.Given as goal

abbrev pub invariant-loop-entry : goal.invariant-loop-entry
invariant-loop-entry l = l.total ≡ capped (pending_length (take l.entry-index l.pending))
