-- What the reads of a recovery tell, one after another.
use Rattle.std.proofs.Common.{ℕ, ◌≤◌, ◌≡◌, Result, Ok, Err, refl, ◌∙◌, subst, arith}
use Rattle.rep_types.specs.declared.ids.Cluster.{Cluster}
use Rattle.rep_types.specs.declared.state.Call.{Call}
use Rattle.rep_types.specs.declared.state.Call.TheVariants as call
use Rattle.rep_vault.specs.Tallies.{Tally}
use Rattle.rep_vault.proofs.Counts.{total_kept}
use Rattle.wal_roll.specs.Blamed.{IsFault}
use Rattle.log_split.specs.declared.error.SplitError.{SplitError}
use Rattle.log_split.specs.declared.error.SplitError.TheVariants.{BadFrame}
use Rattle.log_split.specs.Told.{ReadFailed, UnlessStopped}
use Rattle.cluster_core.specs.Does.{IsTold}
use Rattle.region_events.specs.Unflushed.{IfFault, ReadTells}
use Rattle.region_events.specs.declared.reading.ReadError.{ReadError}
use Rattle.region_events.specs.declared.reading.ReadError.TheVariants.{StoreFault, Memory}

-- no count of faults falls
abbrev Rises : Tally → Tally → Type 0
Rises old new = (j : Call) → old.faults j ≤ new.faults j

-- where the logs hold entries, no bad frame is told
pub never_bad : {T : Type 0} (log at rule : ℕ) (due : T) → UnlessStopped (Err (BadFrame log at rule)) (Ok due) → ⊥
never_bad {T} log at rule due h = let both : ◌≡◌ {A = Result T SplitError} (Err (BadFrame log at rule)) (Ok due) = h in cc

-- the fault of a read is one of reading
pub read_failed : (old new : Tally) (k : Call) (n : ℕ) → ReadFailed old new k n → IsFault call.Read n old new
read_failed old new k n f = subst (λ j. IsFault j n old new) f.reading f.fault

-- a later fault counts from the start on
pub fault_later : (k : Call) (n : ℕ) (old mid new : Tally) → Rises old mid → IsFault k n mid new → IsFault k n old new
fault_later k n old mid new kept f = record {
  kind = omega (arith, kept k, f.kind);
  count = f.count;
  rose = omega (arith, total_kept old.faults mid.faults kept, f.rose);
}

pub read_later : {T : Type 0} (old mid new : Tally) (r : Result T ReadError) → Rises old mid → mid.planned ≡ old.planned → ReadTells mid new r → ReadTells old new r
read_later old mid new r kept planned k = record {
  kept = λ j. omega (arith, kept j, k.kept j);
  fault = later r k.fault;
  planned = k.planned ∙ planned;
}
  where
    later : {T : Type 0} (q : Result T ReadError) → IfFault q (λ n. IsFault call.Read n mid new) → IfFault q (λ n. IsFault call.Read n old new)
    later (Ok x) f = tt
    later (Err (StoreFault n)) f = fault_later call.Read n old mid new kept f
    later (Err Memory) f = tt

pub fault_told : (own : Cluster) (k : Call) (n : ℕ) (old new : Tally) → IsFault k n old new → IsTold own own k n old new
fault_told own k n old new f = record { store_is = refl; kind = f.kind; count = f.count; rose = f.rose }
