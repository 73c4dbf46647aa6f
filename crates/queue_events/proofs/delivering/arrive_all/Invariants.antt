use Rattle.std.proofs.Common.{◌≡◌}
use Rattle.rep_model.specs.State.{of}
use Rattle.rep_model.specs.declared.machine.Machine.{Machine}
use Rattle.cluster_core.specs.Stands.{Stands}
use Rattle.cluster_core.specs.Does.{Counts}
use Rattle.queue_events.specs.Arriving.{IsMidway}
use Rattle.queue_events.specs.Underway.{IsUnderway}
use Rattle.queue_events.proofs.delivering.arrive_all.Given as goal

abbrev pub invariant-loop-form : goal.invariant-loop-form
invariant-loop-form g l =
    ((m : Machine) → IsMidway l.initial.core.own m → Stands l.initial.core.own (g.V.Vault.contents l.initial.own) l.initial.core (of l.initial.core.own m)
    → IsUnderway l.initial.core.own l.peer l.synchronous l.forms m (g.V.Vault.contents l.own) l.core l.acks.items l.form-index)
    × (l.arrived ≡ l.form-index)
    × (l.arrived ≡ 0 → (l.core ≡ l.initial.core) × (g.V.Vault.contents l.own ≡ g.V.Vault.contents l.initial.own))
    × Counts (g.V.Vault.tally l.initial.own) (g.V.Vault.tally l.own)
