-- What a host took in one delivery.
use Rattle.std.specs.Prelude.{ℕ, ◌≡◌, List, [], ◌∷◌, ◌++◌, Option, Some, Result, Ok, Err}
use Rattle.rep_types.specs.declared.entry.Entry.{Entry}
use Rattle.rep_types.specs.declared.entry.Origin.{Origin}
use Rattle.sink.specs.declared.arrivals.Arrival.{Arrival}
use Rattle.sink.specs.declared.arrivals.Halt.{Halt}
use Rattle.sink.specs.declared.arrivals.Halt.TheVariants as halt
use Rattle.sink.specs.declared.arrivals.Refused.{Refused}
use Rattle.sink.specs.declared.arrivals.Refused.TheVariants as refused

-- the forms taken, in order; the tickets answered; and why no more are taken
pub record Arriving : Type 0 where
  pub arrived : List Arrival
  pub acks : List ℕ
  pub halted : Option Halt

-- A form is taken and tickets are answered; or it is refused, and the forms and tickets stay.
abbrev pub Arrives : Entry → Origin → Arriving → Arriving → Result (List ℕ) Refused → Type 0
Arrives form origin old new (Ok tickets) =
    new ≡ record old { arrived = old.arrived ++ record { form = form; origin = origin } ∷ []; acks = old.acks ++ tickets }
Arrives form origin old new (Err (refused.Stopped cause)) =
    new ≡ record old { halted = Some (halt.Stopped (record { form = form; origin = origin }) cause) }
Arrives form origin old new (Err refused.Memory) = new ≡ record old { halted = Some halt.Memory }
