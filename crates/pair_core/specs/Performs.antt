-- What an event does to both clusters.
use Rattle.std.specs.Prelude.{ℕ, ◌<◌, ◌≡◌, Bool, false, Result, Ok, Err}
use Rattle.rep_types.specs.declared.ids.Cluster.{Cluster}
use Rattle.rep_types.specs.declared.ids.Cluster.TheVariants.{A, B, C}
use Rattle.rep_types.specs.declared.state.Call.{Call}
use Rattle.rep_types.specs.declared.event.Event.{Event}
use Rattle.rep_types.specs.declared.reply.Cause.{Cause}
use Rattle.rep_types.specs.declared.reply.Cause.TheVariants as cause
use Rattle.rep_types.specs.declared.reply.Reply.{Reply}
use Rattle.rep_types.specs.declared.reply.Reply.TheVariants as reply
use Rattle.rep_vault.specs.Contents.{Contents}
use Rattle.rep_vault.specs.Tallies.{Tally, total}
use Rattle.rep_model.specs.Row.{Row}
use Rattle.rep_model.specs.Rows.{row}
use Rattle.rep_model.specs.State.{Pair}
use Rattle.rep_model.specs.declared.machine.Machine.{Machine}
use Rattle.cluster_core.specs.declared.parts.CoreError.{CoreError}
use Rattle.cluster_core.specs.declared.parts.CoreError.TheVariants as failed
use Rattle.pair_core.specs.declared.sides.Sides.{Sides}
use Rattle.pair_core.specs.Sides.{Both, AllStand}

-- the reply is the row's, and memory and both stores stand for the state after it
pub record Done (r : Row) (stores : Both Contents) (sides : Sides) (reply : Reply) : Type 0 where
  pub reply_is : reply ≡ r.reply
  pub stand : AllStand stores sides r.state

-- where memory ran out before anything was changed, all is as before
abbrev pub Performs : Event → Machine → Both Contents → Sides → Both Contents → Sides → Result Reply CoreError → Type 0
Performs e m old sides new sides' (Ok reply) = Done (row Pair e reply m) new sides' reply
Performs e m old sides new sides' (Err (failed.Memory changed)) = changed ≡ false → (sides' ≡ sides) × (new ≡ old)

-- whether memory ran out behind a change
abbrev pub changed_of : CoreError → Bool
changed_of (failed.Memory changed) = changed

-- a failed call of a store was counted there: the told number is the sum over all kinds, which rose, as did the kind's
pub record Rose (old new : Tally) (call : Call) (n : ℕ) : Type 0 where
  pub kind : old.faults call < new.faults call
  pub count : n ≡ total new.faults
  pub sum : total old.faults < total new.faults

-- in the cluster's store, which is one of the two
abbrev pub RoseIn : Cluster → Both Tally → Both Tally → Call → ℕ → Type 0
RoseIn A old new call n = Rose old.a new.a call n
RoseIn B old new call n = Rose old.b new.b call n
RoseIn C old new call n = ⊥

abbrev pub CauseRose : Cause → Both Tally → Both Tally → Type 0
CauseRose (cause.StoreFault store call n) old new = RoseIn store old new call n
CauseRose _ old new = Unit {0}

abbrev pub FaultRose : Reply → Both Tally → Both Tally → Type 0
FaultRose (reply.StoreFault store call n) old new = RoseIn store old new call n
FaultRose (reply.Stopped index acks why) old new = CauseRose why old new
FaultRose _ old new = Unit {0}
