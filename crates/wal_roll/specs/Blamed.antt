-- What a call of a writer says of the store's counts of faults.
use Rattle.std.specs.Prelude.{ℕ, ◌<◌, ◌≤◌, ◌≡◌, Result, Err}
use Rattle.rep_types.specs.declared.state.Call.{Call}
use Rattle.rep_vault.specs.Tallies.{Tally, total}
use Rattle.wal_roll.specs.declared.error.LogError.{LogError}
use Rattle.wal_roll.specs.declared.error.LogError.TheVariants.{StoreFault, Memory}

-- the count of that kind rose, and the told number is the sum over all kinds, which rose too
pub record IsFault (k : Call) (n : ℕ) (old new : Tally) : Type 0 where
  pub kind : old.faults k < new.faults k
  pub count : n ≡ total new.faults
  pub rose : total old.faults < total new.faults

-- No count falls. A told fault rose; for want of memory none rises. Nothing is planned.
pub record Blamed (old new : Tally) {T : Type 0} (result : Result T LogError) : Type 0 where
  pub kept : (k : Call) → old.faults k ≤ new.faults k
  pub fault : (k : Call) (n : ℕ) → result ≡ Err (StoreFault k n) → IsFault k n old new
  pub memory : result ≡ Err Memory → (k : Call) → new.faults k ≡ old.faults k
  pub planned : new.planned ≡ old.planned
