use Rattle.std.proofs.Common.{◌≡◌, ◌==◌, ◌++◌, drop, take, length}
use Rattle.rep_model.specs.Tickets.{tell_waiting}
use Rattle.rep_model.specs.declared.machine.Told.TheVariants as told
use Rattle.plain_parts.proofs.doubt.doubt_waiting.Given as goal

abbrev pub invariant-loop-at : goal.invariant-loop-at
invariant-loop-at l =
    (take l.at l.tickets ++ tell_waiting l.cluster (λ t log. t == l.server) (λ _. told.Doubtful) (drop l.at l.tickets) ≡ tell_waiting l.cluster (λ t log. t == l.server) (λ _. told.Doubtful) l.initial.tickets)
    × (length l.tickets ≡ length l.initial.tickets)
