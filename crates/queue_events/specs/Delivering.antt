-- What a delivery leaves, and when a cluster is the one that a flight was sent to.
use Rattle.std.specs.Prelude.{ℕ, suc, ◌<◌, ◌≡◌, ◌==◌, ◌||◌, nat_lt, Bool, List, length, map, slice_get, Option, Some, None, IfSome, Result, Ok, Err}
use Rattle.std.specs.List.{AllByRecursion}
use Rattle.rep_types.specs.declared.ids.Cluster.{Cluster}
use Rattle.rep_types.specs.declared.reply.Cause.{Cause}
use Rattle.rep_vault.specs.Contents.{Contents}
use Rattle.rep_vault.specs.Tallies.{Tally}
use Rattle.wal_entry.specs.Framed.{HasFrame}
use Rattle.rep_model.specs.State.{Route, of, dest, mark, flight_of}
use Rattle.rep_model.specs.Words.{is_in}
use Rattle.rep_model.specs.Tickets.{acks}
use Rattle.rep_model.specs.QueueEvents.{delivered, failing_by}
use Rattle.rep_model.specs.declared.faults.Failing.{Failing}
use Rattle.rep_model.specs.declared.machine.Commit.{Commit}
use Rattle.rep_model.specs.declared.machine.Flight.{Flight}
use Rattle.rep_model.specs.declared.machine.Form.{Form}
use Rattle.rep_model.specs.declared.machine.Machine.{Machine}
use Rattle.cluster_core.specs.declared.parts.ClusterCore.{ClusterCore}
use Rattle.cluster_core.specs.declared.parts.CoreError.{CoreError}
use Rattle.cluster_core.specs.declared.parts.CoreError.TheVariants as failed
use Rattle.cluster_core.specs.declared.parts.Sent.{Sent}
use Rattle.cluster_core.specs.Does.{Reached, sent_of, CauseTold}
use Rattle.cluster_core.specs.Entries.{entry_of}
use Rattle.cluster_core.specs.Stands.{Stands}
use Rattle.queue_events.specs.declared.delivering.Delivered.{Delivered}

-- the flight was sent to this cluster, and the commits of its source have frames
pub record IsFor (way : Route) (own : Cluster) (m : Machine) (f : Flight) : Type 0 where
  pub to : dest way f.cluster ≡ own
  pub framed : AllByRecursion (λ (x : Commit). HasFrame (entry_of x)) (of f.cluster m).commits

-- memory and the store stand for a cluster that the flight, if it is known, was sent to
pub record IsSink (way : Route) (own : Cluster) (c : Contents) (core : ClusterCore) (flights : List Sent) (k : ℕ) (m : Machine) : Type 0 where
  pub reached : Reached way m
  pub inside : is_in way own ≡ Bool.true
  pub stands : Stands own c core (of own m)
  pub flights_are : flights ≡ map (sent_of way) m.flights
  pub sent_here : IfSome (flight_of k m) (IsFor way own m)

-- which form a fault stopped
abbrev pub stopped_by : Cluster → ℕ → Option Cause → Option Failing
stopped_by own index None = None
stopped_by own index (Some why) = failing_by own index why

-- the forms arrived as the state's delivery has it
pub record Delivers (own : Cluster) (peer : ℕ) (synchronous : Bool) (forms : List Form) (m : Machine) (c : Contents) (core : ClusterCore) (done : Delivered) : Type 0 where
  pub left : Machine
  pub delivery : delivered peer synchronous own (stopped_by own done.arrived done.stop) 0 forms m ≡ record { left = left; arrived = done.arrived; stop = done.stop }
  pub stands : Stands own c core (of own left)
  pub beside : (d : Cluster) → (mark d == mark own) ≡ Bool.false → of d left ≡ of d m
  pub flights : left.flights ≡ m.flights
  pub acks_are : done.acks ≡ acks m left

-- want of memory behind so many forms that arrived
abbrev pub behind : CoreError → ℕ → CoreError
behind (failed.Memory changed) n = failed.Memory (changed || nat_lt 0 n)

-- where memory ran out before anything was changed, all is as before
abbrev pub DeliversOr : Cluster → ℕ → Bool → List Form → Machine → Contents → ClusterCore → Contents → ClusterCore → Result Delivered CoreError → Type 0
DeliversOr own peer synchronous forms m old core new core' (Ok done) = Delivers own peer synchronous forms m new core' done
DeliversOr own peer synchronous forms m old core new core' (Err (failed.Memory changed)) = changed ≡ Bool.false → (core' ≡ core) × (new ≡ old)

abbrev stop_told : Cluster → Option Cause → Tally → Tally → Type 0
stop_told own None old new = Unit {0}
stop_told own (Some why) old new = CauseTold own why old new

abbrev pub DeliveryTold : Cluster → Delivered → Tally → Tally → Type 0
DeliveryTold own done old new = stop_told own done.stop old new

-- the place of a flight, which are numbered from 1
abbrev pub IsPlace : ℕ → List Sent → Option ℕ → Type 0
IsPlace k flights (Some at) = (k ≡ suc at) × (at < length flights)
IsPlace k flights None = (at : ℕ) → k ≡ suc at → slice_get flights at ≡ None
