use Rattle.std.proofs.Common.{◌≡◌, rules}
use Rattle.shipper.specs.Flights.{FlightsValue, with_flight}
use Rattle.shipper.proofs.Standing.{sent-lists}
use Rattle.shipper.proofs.flights.Flights.send.Goals as goal

pub invariant_of-self-2 : goal.invariant_of-self-2
invariant_of-self-2 c =
    let before : FlightsValue = record { batches = c.self.inside.sent; delivered = c.self.inside.delivered.items; outstanding = c.self.inside.outstanding.items } in
    let batches : c.push.new.self ≡ (with_flight c.args.batch before).batches = search rules in
    let delivered : c.add.new.items.items ≡ (with_flight c.args.batch before).delivered = search rules in
    let outstanding : c.add-2.new.items.items ≡ (with_flight c.args.batch before).outstanding = search rules in
    sent-lists c.args.batch before _ _ _ c.self.invariant batches delivered outstanding
