use Rattle.std.proofs.Common.{◌≡◌, ◌+◌, ◌++◌, drop}
use Rattle.rep_model.specs.Tickets.{is_doubtful, newly}
use Rattle.plain_parts.proofs.doubt.newly_doubtful.Given as goal

abbrev pub invariant-loop-at : goal.invariant-loop-at
invariant-loop-at l =
    (l.numbers ++ newly is_doubtful (l.at + 1) (drop l.at l.before) (drop l.at l.after) ≡ newly is_doubtful 1 l.before l.after)
