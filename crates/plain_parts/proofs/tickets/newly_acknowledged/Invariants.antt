use Rattle.std.proofs.Common.{◌≡◌, ◌+◌, ◌++◌, drop}
use Rattle.rep_model.specs.Tickets.{is_acknowledged, newly}
use Rattle.plain_parts.proofs.tickets.newly_acknowledged.Given as goal

abbrev pub invariant-loop-at : goal.invariant-loop-at
invariant-loop-at l =
    (l.acks ++ newly is_acknowledged (l.at + 1) (drop l.at l.before) (drop l.at l.after) ≡ newly is_acknowledged 1 l.before l.after)
