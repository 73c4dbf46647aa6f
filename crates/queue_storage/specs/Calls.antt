-- What a call of a queue store says of the vault's counts of faults.
use Rattle.std.specs.Prelude.{ℕ, ◌≡◌, ◌≤◌, Result, Err}
use Rattle.rep_types.specs.declared.state.Call.{Call}
use Rattle.rep_types.specs.declared.state.Call.TheVariants.{Put}
use Rattle.rep_vault.specs.Tallies.{Tally}
use Rattle.wal_roll.specs.Blamed.{IsFault}
use Rattle.queue_storage.specs.declared.error.QueueError.{QueueError}
use Rattle.queue_storage.specs.declared.error.QueueError.TheVariants.{StoreFault}

-- no count falls, and a told fault is a put that was counted
pub record Tells (old new : Tally) {T : Type 0} (result : Result T QueueError) : Type 0 where
  pub kept : (k : Call) → old.faults k ≤ new.faults k
  pub fault : (n : ℕ) → result ≡ Err (StoreFault n) → IsFault Put n old new
  pub planned : new.planned ≡ old.planned
