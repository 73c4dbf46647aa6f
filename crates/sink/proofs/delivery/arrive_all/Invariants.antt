use Rattle.std.proofs.Common.{◌≡◌}
use Rattle.sink.proofs.Steps.{IsUnderway}
use Rattle.sink.proofs.delivery.arrive_all.Given as goal

abbrev pub invariant-loop-form : goal.invariant-loop-form
invariant-loop-form g l =
    IsUnderway l.batch l.forms l.form-index (g.A.Arrivals.state l.initial.host) (g.A.Arrivals.state l.host) l.acks.items
    × (l.arrived ≡ l.form-index)
    × (g.A.Arrivals.has_place l.host ≡ g.A.Arrivals.has_place l.initial.host)
