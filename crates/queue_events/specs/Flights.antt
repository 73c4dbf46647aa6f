-- Flights in memory, and what is out of a queue.
use Rattle.std.specs.Prelude.{ℕ, ◌-◌, ◌==◌, ◌≡◌, List, Option, None, IfSome, if◌then◌else◌, slice_get}
use Rattle.rep_types.specs.declared.ids.Cluster.{Cluster}
use Rattle.rep_model.specs.State.{flight_of}
use Rattle.rep_model.specs.declared.machine.Machine.{Machine}
use Rattle.cluster_core.specs.declared.parts.Sent.{Sent}

-- the flight of this number
abbrev pub sent_at : ℕ → List Sent → Option Sent
sent_at k flights = if k == 0 then None else slice_get flights (k - 1)

-- the flight, if it is known, was sent from this cluster
abbrev pub IsFrom : Cluster → ℕ → Machine → Type 0
IsFrom c k m = IfSome (flight_of k m) (λ f. f.cluster ≡ c)
