use Rattle.std.proofs.Common.{◌≡◌, ◌++◌, true, drop, take, length}
use Rattle.rep_model.specs.Tickets.{tell_waiting}
use Rattle.plain_parts.proofs.waiting.end_waiting.Given as goal

abbrev pub invariant-loop-at : goal.invariant-loop-at
invariant-loop-at l =
    (take l.at l.tickets ++ tell_waiting l.cluster (λ s k. true) (λ x. l.end) (drop l.at l.tickets) ≡ tell_waiting l.cluster (λ s k. true) (λ x. l.end) l.initial.tickets)
    × (length l.tickets ≡ length l.initial.tickets)
