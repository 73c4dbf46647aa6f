-- Every flight that was sent, what may be done with it, and what that changes.
use Rattle.std.specs.Prelude.{ℕ, ◌≡◌, ◌+◌, ◌-◌, ◌==◌, List, [], ◌∷◌, ◌++◌, length, Bool, true, false, Option, Some, None, Result, Err, IsOk, nat_le, slice_get, slice_set, All, if◌then◌else◌}
use Rattle.std.specs.Option.{option_map, unwrap_or}
use Rattle.wire_batch.specs.declared.batch.Batch.{Batch}
use Rattle.shipper.specs.declared.error.FlightError.{FlightError}
use Rattle.shipper.specs.declared.error.FlightError.TheVariants.{NoFlight, Stale, NotDelivered}
use Rattle.shipper.specs.declared.queue.Outstanding.{Outstanding}
use Rattle.shipper.specs.declared.queue.QueueId.{QueueId}
use Rattle.shipper.specs.Queues.{queue_of, outstanding_of, without}

-- the batches in the order of their flights, from 1 on; of each whether it was marked as delivered whole; and the outstanding flights
pub record FlightsValue : Type 0 where
  pub batches : List Batch
  pub delivered : List Bool
  pub outstanding : List Outstanding

-- the number of the next flight
abbrev pub next_flight : FlightsValue → ℕ
next_flight f = length f.batches + 1

abbrev pub numbered : ℕ → Batch → Batch
numbered n b = record b { flight = n }

-- one more flight, which is its queue's outstanding one
abbrev pub with_flight : Batch → FlightsValue → FlightsValue
with_flight b f = record {
  batches = f.batches ++ numbered (next_flight f) b ∷ [];
  delivered = f.delivered ++ false ∷ [];
  outstanding = f.outstanding ++ record { queue = queue_of b; flight = next_flight f } ∷ [];
}

-- what was sent under a number
abbrev pub flight_of : ℕ → List Batch → Option Batch
flight_of n batches = if nat_le 1 n then slice_get batches (n - 1) else None

-- the queue of what was sent under a number
abbrev pub queue_at : ℕ → List Batch → Option QueueId
queue_at n batches = option_map queue_of (flight_of n batches)

-- the flight was marked as delivered whole
abbrev pub is_delivered : ℕ → FlightsValue → Bool
is_delivered n f = unwrap_or (slice_get f.delivered (n - 1)) false

abbrev pub with_mark : ℕ → FlightsValue → FlightsValue
with_mark n f = record f { delivered = slice_set f.delivered (n - 1) true }

abbrev is_now : ℕ → Option ℕ → Bool
is_now n None = false
is_now n (Some now) = now == n

-- the flight isn't the outstanding one
abbrev pub stale : ℕ → Option ℕ → Option FlightError
stale n now = if is_now n now then None else Some (Stale now)

abbrev pub refusal_in : ℕ → List Outstanding → Option QueueId → Option FlightError
refusal_in n os None = Some NoFlight
refusal_in n os (Some queue) = stale n (outstanding_of queue os)

-- why a flight isn't lost
abbrev pub lose_refusal : ℕ → FlightsValue → Option FlightError
lose_refusal n f = refusal_in n f.outstanding (queue_at n f.batches)

abbrev pub undelivered : ℕ → FlightsValue → Option FlightError
undelivered n f = if is_delivered n f then None else Some (NotDelivered n)

abbrev or_else : Option FlightError → Option FlightError → Option FlightError
or_else None next = next
or_else (Some e) next = Some e

-- why a flight isn't confirmed; the first that holds
abbrev pub confirm_refusal : ℕ → FlightsValue → Option FlightError
confirm_refusal n f = or_else (lose_refusal n f) (undelivered n f)

-- the queue has no outstanding flight
abbrev pub ended_of : Option QueueId → FlightsValue → FlightsValue
ended_of None f = f
ended_of (Some queue) f = record f { outstanding = without queue f.outstanding }

-- the queue of the flight has none
abbrev pub ended : ℕ → FlightsValue → FlightsValue
ended n f = ended_of (queue_at n f.batches) f

-- a call answers its refusal, and is done where there is none
abbrev pub Answers : {T : Type 0} → Option FlightError → Result T FlightError → Type 0
Answers None result = IsOk result
Answers (Some e) result = result ≡ Err e

-- the outstanding flight was sent, and of that queue
abbrev pub IsOut : List Batch → Outstanding → Type 0
IsOut batches o = queue_at o.flight batches ≡ Some o.queue

-- each flight is marked or not, and those outstanding were sent
pub record IsFlights (f : FlightsValue) : Type 0 where
  pub marks : length f.delivered ≡ length f.batches
  pub known : All (IsOut f.batches) f.outstanding
