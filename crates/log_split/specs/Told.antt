-- What a refusal tells.
use Rattle.std.specs.Prelude.{ℕ, ◌≡◌, ◌≤◌, Result, Ok, Err, IfErr}
use Rattle.rep_types.specs.declared.state.Call.{Call}
use Rattle.rep_types.specs.declared.state.Call.TheVariants as call
use Rattle.rep_vault.specs.Tallies.{Tally}
use Rattle.wal_reader.specs.declared.error.ReaderError.{ReaderError}
use Rattle.wal_reader.specs.declared.error.ReaderError.TheVariants as reader
use Rattle.wal_roll.specs.Blamed.{IsFault}
use Rattle.log_split.specs.declared.error.SplitError.{SplitError}
use Rattle.log_split.specs.declared.error.SplitError.TheVariants.{BadFrame, StoreFault, Memory}

-- a reader's refusal as one of this crate
abbrev pub refused : ReaderError → SplitError
refused (reader.BadFrame log at rule) = BadFrame log at rule
refused reader.Memory = Memory

-- a fact of the bad frame that is told
abbrev pub IfBad : SplitError → (ℕ → ℕ → ℕ → Type 0) → Type 0
IfBad (BadFrame log at rule) fact = fact log at rule
IfBad (StoreFault kind count) fact = Unit {0}
IfBad Memory fact = Unit {0}

-- a fact of the fault that is told
abbrev pub IfFault : SplitError → (Call → ℕ → Type 0) → Type 0
IfFault (BadFrame log at rule) fact = Unit {0}
IfFault (StoreFault kind count) fact = fact kind count
IfFault Memory fact = Unit {0}

-- reading failed, which was counted, and this is the sum of the counts
pub record ReadFailed (old new : Tally) (kind : Call) (count : ℕ) : Type 0 where
  pub reading : kind ≡ call.Read
  pub fault : IsFault kind count old new

-- no count of faults falls, a told fault was counted, and nothing is planned
pub record Tells (old new : Tally) {T : Type 0} (result : Result T SplitError) : Type 0 where
  pub kept : (k : Call) → old.faults k ≤ new.faults k
  pub fault : IfErr result (λ e. IfFault e (ReadFailed old new))
  pub planned : new.planned ≡ old.planned

-- the answer is the one that is due, unless the store failed or memory ran out
abbrev pub UnlessStopped : {T : Type 0} → Result T SplitError → Result T SplitError → Type 0
UnlessStopped (Ok x) due = Ok x ≡ due
UnlessStopped (Err (BadFrame log at rule)) due = Err (BadFrame log at rule) ≡ due
UnlessStopped (Err (StoreFault kind count)) due = Unit {0}
UnlessStopped (Err Memory) due = Unit {0}
