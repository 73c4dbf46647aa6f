use Rattle.shipper.specs.Flights.{next_flight, numbered}
use Rattle.shipper.specs.Queues.{queue_of}
use Rattle.shipper.proofs.Standing.{flight-stays, flight-last, begins, beside, ends, others}
use Rattle.shipper.proofs.laws.one_flight_a_queue.Goals as goal

pub returns-clause-last : goal.returns-clause-last
returns-clause-last c = λ b f. flight-last f.batches (numbered (next_flight f) b)

pub returns-clause-stays : goal.returns-clause-stays
returns-clause-stays c = λ n b sent f e. flight-stays n f.batches (numbered (next_flight f) b) sent e

pub returns-clause-begins : goal.returns-clause-begins
returns-clause-begins c = λ b f free. begins (queue_of b) f.outstanding (next_flight f) free

pub returns-clause-beside : goal.returns-clause-beside
returns-clause-beside c = λ b f other apart. beside (queue_of b) other f.outstanding (next_flight f) apart

pub returns-clause-ends : goal.returns-clause-ends
returns-clause-ends c = λ n f queue e. ends n f queue e

pub returns-clause-others : goal.returns-clause-others
returns-clause-others c = λ n f queue other e apart. others n f queue other e apart
