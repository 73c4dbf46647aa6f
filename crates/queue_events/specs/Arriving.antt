-- What the arrival of one form at its destination leaves.
use Rattle.std.specs.Prelude.{ℕ, ◌≤◌, ◌<◌, ◌^◌, ◌≡◌, ◌==◌, Bool, List, [], ◌∷◌, fold, Option, Some, None, Result, Ok, Err}
use Rattle.rep_types.specs.declared.ids.Cluster.{Cluster}
use Rattle.rep_types.specs.declared.entry.Entry.{Entry}
use Rattle.rep_types.specs.declared.entry.EntryKind.TheVariants as kind
use Rattle.rep_types.specs.declared.reply.Cause.{Cause}
use Rattle.rep_types.specs.declared.reply.Cause.TheVariants as cause
use Rattle.rep_vault.specs.Contents.{Contents}
use Rattle.rep_vault.specs.Tallies.{Tally}
use Rattle.wal_entry.specs.Framed.{HasFrame}
use Rattle.rep_model.specs.Keyed.{given}
use Rattle.rep_model.specs.State.{Route, of, mark}
use Rattle.rep_model.specs.Tickets.{newly, is_acknowledged}
use Rattle.rep_model.specs.QueueEvents.{Delivery, arrives, fails_at, failing_by, stopped}
use Rattle.rep_model.specs.Words.{is_in}
use Rattle.rep_model.specs.declared.faults.Failing.{Failing}
use Rattle.rep_model.specs.declared.machine.Form.{Form}
use Rattle.rep_model.specs.declared.machine.Machine.{Machine}
use Rattle.rep_model.specs.declared.machine.Ticket.{Ticket}
use Rattle.rep_model.specs.declared.machine.Told.TheVariants as told
use Rattle.rep_laws.proofs.LogsPart.{Logged}
use Rattle.rep_laws.proofs.PromisePart.{Promises}
use Rattle.rep_laws.proofs.SeatPart.{Seats}
use Rattle.cluster_core.specs.declared.parts.ClusterCore.{ClusterCore}
use Rattle.cluster_core.specs.declared.parts.CoreError.{CoreError}
use Rattle.cluster_core.specs.declared.parts.CoreError.TheVariants as failed
use Rattle.cluster_core.specs.Does.{CauseTold}
use Rattle.cluster_core.specs.Orderly.{IsOrderly}
use Rattle.cluster_core.specs.Stands.{Stands}
use Rattle.queue_events.specs.declared.arriving.Arrived.{Arrived}
use Rattle.queue_events.specs.declared.arriving.Arrived.TheVariants.{Taken, Stopped}
use Rattle.queue_events.specs.Acks.{put_in}

-- the entry that a form of this peer becomes
abbrev pub arriving_entry : ℕ → ℕ → ℕ → Form → Entry
arriving_entry region seq peer form = record { region = region; seq = seq; kind = kind.Write form.edit; marks = form.marks; origin = Some (record { peer = peer; entry = form.source }) }

-- each entry that the form may become has a frame
abbrev pub MayArrive : Form → Type 0
MayArrive form = (peer region seq : ℕ) → 1 ≤ peer → peer ≤ 4 → 1 ≤ region → region ≤ 4096 → 1 ≤ seq → seq < 2 ^ 64 → HasFrame (arriving_entry region seq peer form)

-- what holds of a state between two forms, as of one that a legal run reaches
pub record IsMidway (own : Cluster) (m : Machine) : Type 0 where
  pub route : Route
  pub inside : is_in route own ≡ Bool.true
  pub seats : Seats m
  pub promises : Promises m
  pub logged : Logged m
  pub orderly : IsOrderly (of own m)

-- what is pending now wasn't acknowledged then
abbrev pub Waited : List Ticket → List Ticket → Type 0
Waited [] [] = Unit {0}
Waited [] (t ∷ ts) = ⊥
Waited (u ∷ us) [] = ⊥
Waited (u ∷ us) (t ∷ ts) = (t.told ≡ told.Pending → is_acknowledged u.told ≡ Bool.false) × Waited us ts

-- these tickets are acknowledged; nothing else but the cluster's own side changes
pub record Leaves (own : Cluster) (m : Machine) (tickets : List ℕ) (after : Machine) (c : Contents) (core : ClusterCore) : Type 0 where
  pub midway : IsMidway own after
  pub stands : Stands own c core (of own after)
  pub beside : (d : Cluster) → (mark d == mark own) ≡ Bool.false → of d after ≡ of d m
  pub flights : after.flights ≡ m.flights
  pub waited : (before : List Ticket) → Waited before m.tickets → Waited before after.tickets
  pub acks : (before : List Ticket) → Waited before m.tickets → newly is_acknowledged 1 before after.tickets ≡ fold put_in (newly is_acknowledged 1 before m.tickets) tickets

-- the form was taken and left this state, or it was stopped there, where this fails at it
abbrev pub Takes : ℕ → Bool → Form → Cluster → Option Cause → Machine → Option Cause → Machine → Type 0
Takes p synchronous form c fails m stop after =
    (i : ℕ) (failed : Option Failing) (rest : Machine → Delivery) → fails_at failed i ≡ fails →
    arrives p synchronous form c i failed m rest ≡ given stop (rest after) (λ why. stopped after i why)

-- the fault that a cause tells of
abbrev pub fault_of : Cause → Option Cause
fault_of (cause.StoreFault store call count) = Some (cause.StoreFault store call count)
fault_of _ = None

abbrev pub fault_at : ℕ → Option Cause → Option Failing
fault_at i None = None
fault_at i (Some why) = Some (record { index = i; why = why })

-- the form was taken, or something stopped it; a fault is one that the row knows of; where memory ran out before anything was changed, all is as before
abbrev pub Arrives : Cluster → ℕ → Bool → Form → Machine → Contents → ClusterCore → Contents → ClusterCore → Result Arrived CoreError → Type 0
Arrives own peer synchronous form m old core new core' (Ok (Taken tickets)) = (after : Machine) × Takes peer synchronous form own None m None after × Leaves own m tickets after new core'
Arrives own peer synchronous form m old core new core' (Ok (Stopped why)) =
    (after : Machine) × Takes peer synchronous form own (fault_of why) m (Some why) after × Leaves own m [] after new core' × ((i : ℕ) → failing_by own i why ≡ fault_at i (fault_of why))
Arrives own peer synchronous form m old core new core' (Err (failed.Memory changed)) = changed ≡ Bool.false → (core' ≡ core) × (new ≡ old)

abbrev pub ArrivalTold : Cluster → Arrived → Tally → Tally → Type 0
ArrivalTold own (Taken tickets) old new = Unit {0}
ArrivalTold own (Stopped why) old new = CauseTold own why old new
