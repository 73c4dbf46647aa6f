-- How many failed calls of a store a journal tells, by kind of call.
use Rattle.std.specs.Prelude.{ℕ, ◌==◌, ◌≤◌, ◌&&◌, Bool, false, List, filter, length}
use Rattle.rep_types.specs.declared.ids.Cluster.{Cluster}
use Rattle.rep_types.specs.declared.record.Record.{Record}
use Rattle.rep_types.specs.declared.state.Call.{Call}
use Rattle.rep_types.specs.declared.reply.Cause.{Cause}
use Rattle.rep_types.specs.declared.reply.Cause.TheVariants as cause
use Rattle.rep_types.specs.declared.reply.Reply.{Reply}
use Rattle.rep_types.specs.declared.reply.Reply.TheVariants as reply
use Rattle.rep_vault.specs.Tallies.{Tally, same}
use Rattle.rep_model.specs.State.{mark}

-- a call of this kind, of this cluster's store
abbrev pub is_call_of : Cluster → Call → Cluster → Call → Bool
is_call_of c kind store call = mark c == mark store && same kind call

abbrev pub is_cause_of : Cluster → Call → Cause → Bool
is_cause_of c kind (cause.StoreFault store call n) = is_call_of c kind store call
is_cause_of c kind _ = false

-- the reply tells that a call of that kind failed in the cluster's store
abbrev pub is_fault_of : Cluster → Call → Reply → Bool
is_fault_of c kind (reply.StoreFault store call n) = is_call_of c kind store call
is_fault_of c kind (reply.Stopped index acks why) = is_cause_of c kind why
is_fault_of c kind _ = false

abbrev pub tells_of : Cluster → Call → Record → Bool
tells_of c kind r = is_fault_of c kind r.reply

-- how many records tell that a call of that kind failed in the cluster's store
abbrev pub told_of : Cluster → Call → List Record → ℕ
told_of c kind journal = length (filter (tells_of c kind) journal)

-- of each kind of call the store has counted no fewer faults than records tell of it
abbrev pub CountsTold : Cluster → List Record → Tally → Type 0
CountsTold c journal t = (k : Call) → told_of c k journal ≤ t.faults k
