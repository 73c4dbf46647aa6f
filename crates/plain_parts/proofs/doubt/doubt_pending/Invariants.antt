use Rattle.std.proofs.Common.{◌≡◌, drop}
use Rattle.rep_model.specs.Tickets.{doubt_pending}
use Rattle.plain_parts.proofs.doubt.doubt_pending.Given as goal

abbrev pub invariant-loop-entry : goal.invariant-loop-entry
invariant-loop-entry l = doubt_pending (drop l.entry-index l.pending) l.tickets ≡ doubt_pending l.pending l.initial.tickets
