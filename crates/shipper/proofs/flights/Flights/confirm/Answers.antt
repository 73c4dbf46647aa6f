use Rattle.std.proofs.Common.{List, sym, subst}
use Rattle.shipper.specs.Flights.{FlightsValue, IsFlights}
use Rattle.shipper.specs.declared.queue.Outstanding.{Outstanding}
use Rattle.shipper.proofs.Standing.{ended-flights}
use Rattle.shipper.proofs.flights.Flights.confirm.Goals as goal

pub invariant_of-self : goal.invariant_of-self
invariant_of-self c =
    let before : FlightsValue = record { batches = c.self.inside.sent; delivered = c.self.inside.delivered.items; outstanding = c.self.inside.outstanding.items } in
    subst (λ (os : List Outstanding). IsFlights (record before { outstanding = os })) (sym c.end.ensures) (ended-flights c.in_ok-queue.queue before c.self.invariant)
