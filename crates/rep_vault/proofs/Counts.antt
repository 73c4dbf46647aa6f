-- The sum of the counts: it never falls, and rises where a call failed.
use Rattle.std.proofs.Common.{◌≡◌, ◌<◌, ◌≤◌, ℕ, Result, arith}
use Rattle.std.specs.Prelude.{IsErrOf}
use Rattle.rep_types.specs.declared.state.Call.{Call}
use Rattle.rep_types.specs.declared.state.Call.TheVariants as call
use Rattle.rep_vault.specs.declared.store.VaultError.{VaultError}
use Rattle.rep_vault.specs.declared.store.VaultError.TheVariants.{Failed}
use Rattle.rep_vault.specs.declared.tried.Tried.{Tried}
use Rattle.rep_vault.specs.declared.tried.Tried.TheVariants.{NotDone}
use Rattle.rep_vault.specs.declared.tried.TriedSeal.{TriedSeal}
use Rattle.rep_vault.specs.declared.tried.TriedSeal.TheVariants as seal
use Rattle.rep_vault.specs.Tallies.{Tally, Counted, total}
use Rattle.rep_vault.specs.Tries.{Tries, TriesSeal}

pub total_kept : (old new : Call → ℕ) → ((k : Call) → old k ≤ new k) → total old ≤ total new
total_kept old new kept = omega (arith, kept call.Create, kept call.Append, kept call.Sync, kept call.Seal, kept call.Read, kept call.Make, kept call.Rename, kept call.Remove, kept call.List, kept call.Put)

pub total_rises : (kind : Call) (old new : Call → ℕ) → ((k : Call) → old k ≤ new k) → old kind < new kind → total old < total new
total_rises call.Create old new kept more = omega (arith, more, kept call.Append, kept call.Sync, kept call.Seal, kept call.Read, kept call.Make, kept call.Rename, kept call.Remove, kept call.List, kept call.Put)
total_rises call.Append old new kept more = omega (arith, more, kept call.Create, kept call.Sync, kept call.Seal, kept call.Read, kept call.Make, kept call.Rename, kept call.Remove, kept call.List, kept call.Put)
total_rises call.Sync old new kept more = omega (arith, more, kept call.Create, kept call.Append, kept call.Seal, kept call.Read, kept call.Make, kept call.Rename, kept call.Remove, kept call.List, kept call.Put)
total_rises call.Seal old new kept more = omega (arith, more, kept call.Create, kept call.Append, kept call.Sync, kept call.Read, kept call.Make, kept call.Rename, kept call.Remove, kept call.List, kept call.Put)
total_rises call.Read old new kept more = omega (arith, more, kept call.Create, kept call.Append, kept call.Sync, kept call.Seal, kept call.Make, kept call.Rename, kept call.Remove, kept call.List, kept call.Put)
total_rises call.Make old new kept more = omega (arith, more, kept call.Create, kept call.Append, kept call.Sync, kept call.Seal, kept call.Read, kept call.Rename, kept call.Remove, kept call.List, kept call.Put)
total_rises call.Rename old new kept more = omega (arith, more, kept call.Create, kept call.Append, kept call.Sync, kept call.Seal, kept call.Read, kept call.Make, kept call.Remove, kept call.List, kept call.Put)
total_rises call.Remove old new kept more = omega (arith, more, kept call.Create, kept call.Append, kept call.Sync, kept call.Seal, kept call.Read, kept call.Make, kept call.Rename, kept call.List, kept call.Put)
total_rises call.List old new kept more = omega (arith, more, kept call.Create, kept call.Append, kept call.Sync, kept call.Seal, kept call.Read, kept call.Make, kept call.Rename, kept call.Remove, kept call.Put)
total_rises call.Put old new kept more = omega (arith, more, kept call.Create, kept call.Append, kept call.Sync, kept call.Seal, kept call.Read, kept call.Make, kept call.Rename, kept call.Remove, kept call.List)

pub faults_kept : {T : Type 0} (kind : Call) (old new : Tally) (result : Result T VaultError) → Counted kind old new result → total old.faults ≤ total new.faults
faults_kept kind old new result counted = total_kept old.faults new.faults counted.kept

pub fault_counted : {T : Type 0} (kind : Call) (old new : Tally) (result : Result T VaultError) → Counted kind old new result → IsErrOf result Failed → total old.faults < total new.faults
fault_counted kind old new result counted failed = total_rises kind old.faults new.faults counted.kept (counted.failed failed)

pub tried_kept : (kind : Call) (old new : Tally) (result : Tried) → Tries kind old new result → total old.faults ≤ total new.faults
tried_kept kind old new result tries = total_kept old.faults new.faults tries.kept

pub tried_counted : (kind : Call) (old new : Tally) (result : Tried) → Tries kind old new result → result ≡ NotDone → total old.faults < total new.faults
tried_counted kind old new result tries failed = total_rises kind old.faults new.faults tries.kept (tries.failed failed)

pub seal_kept : (old new : Tally) (result : TriedSeal) → TriesSeal old new result → total old.faults ≤ total new.faults
seal_kept old new result tries = total_kept old.faults new.faults tries.kept

pub seal_counted : (old new : Tally) (result : TriedSeal) → TriesSeal old new result → result ≡ seal.NotDone → total old.faults < total new.faults
seal_counted old new result tries failed = total_rises call.Seal old.faults new.faults tries.kept (tries.failed failed)
