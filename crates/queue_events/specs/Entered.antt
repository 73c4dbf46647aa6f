-- What became of a form, by what became of the entry that was made of it.
use Rattle.std.specs.Prelude.{ℕ, List, Result, Ok, Err}
use Rattle.rep_types.specs.declared.ids.Cluster.{Cluster}
use Rattle.rep_types.specs.declared.reply.Cause.TheVariants as cause
use Rattle.cluster_core.specs.declared.parts.CoreError.{CoreError}
use Rattle.cluster_core.specs.declared.parts.CoreError.TheVariants as failed
use Rattle.cluster_core.specs.declared.entering.EntryError.{EntryError}
use Rattle.cluster_core.specs.declared.entering.EntryError.TheVariants.{Broken, NeedRoll, StoreFault, Memory}
use Rattle.queue_events.specs.declared.arriving.Arrived.{Arrived}
use Rattle.queue_events.specs.declared.arriving.Arrived.TheVariants.{Taken, Stopped}

abbrev pub arrived_by : Cluster → (server log : ℕ) → Result (List ℕ) EntryError → Result Arrived CoreError
arrived_by own server log (Ok acks) = Ok (Taken acks)
arrived_by own server log (Err Broken) = Ok (Stopped (cause.Broken log))
arrived_by own server log (Err (NeedRoll used need)) = Ok (Stopped (cause.NeedRoll server used need))
arrived_by own server log (Err (StoreFault kind count)) = Ok (Stopped (cause.StoreFault own kind count))
arrived_by own server log (Err (Memory changed)) = Err (failed.Memory changed)
