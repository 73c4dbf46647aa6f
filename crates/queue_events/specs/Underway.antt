-- A delivery between two forms.
use Rattle.std.specs.Prelude.{ℕ, ◌<◌, ◌≡◌, ◌==◌, Bool, List, drop, Option, None}
use Rattle.rep_types.specs.declared.ids.Cluster.{Cluster}
use Rattle.rep_vault.specs.Contents.{Contents}
use Rattle.rep_model.specs.State.{of, mark}
use Rattle.rep_model.specs.Tickets.{newly, is_acknowledged}
use Rattle.rep_model.specs.QueueEvents.{delivered, fails_at}
use Rattle.rep_model.specs.declared.faults.Failing.{Failing}
use Rattle.rep_model.specs.declared.machine.Form.{Form}
use Rattle.rep_model.specs.declared.machine.Machine.{Machine}
use Rattle.cluster_core.specs.declared.parts.ClusterCore.{ClusterCore}
use Rattle.cluster_core.specs.Stands.{Stands}
use Rattle.queue_events.specs.Arriving.{IsMidway, Waited}

-- so many forms have arrived, and none of them failed; the delivery goes on from this state with the others
pub record IsUnderway (own : Cluster) (peer : ℕ) (synchronous : Bool) (forms : List Form) (m : Machine) (c : Contents) (core : ClusterCore) (acks : List ℕ) (at : ℕ) : Type 0 where
  pub now : Machine
  pub midway : IsMidway own now
  pub stands : Stands own c core (of own now)
  pub beside : (d : Cluster) → (mark d == mark own) ≡ Bool.false → of d now ≡ of d m
  pub flights : now.flights ≡ m.flights
  pub waited : Waited m.tickets now.tickets
  pub acks_are : acks ≡ newly is_acknowledged 1 m.tickets now.tickets
  pub goes : (failed : Option Failing) → ((j : ℕ) → j < at → fails_at failed j ≡ None) → delivered peer synchronous own failed 0 forms m ≡ delivered peer synchronous own failed at (drop at forms) now
