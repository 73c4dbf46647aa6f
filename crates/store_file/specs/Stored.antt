-- What the calls on run files say of the store.
use Rattle.std.specs.Prelude.{ℕ, ◌≡◌, ◌≢◌, suc, ◌≤◌, false, List, length, codes, Some, None, Result, Ok, Err, IfErr}
use Rattle.std.specs.Borrow.{Bor}
use Rattle.rep_types.specs.declared.state.Call.{Call}
use Rattle.rep_vault.specs.Contents.{File, Contents}
use Rattle.rep_vault.specs.Calls.{IsFree, IsOpen}
use Rattle.rep_vault.specs.Tallies.{Tally}
use Rattle.wal_roll.specs.Blamed.{IsFault}
use Rattle.store_file.specs.declared.cell.RunCell.{RunCell}
use Rattle.store_file.specs.declared.error.RunError.{RunError}
use Rattle.store_file.specs.declared.error.RunError.TheVariants.{BadRun, StoreFault, Gone, Exists, Memory}
use Rattle.store_file.specs.Run.{Verdict, Run, Broken, cells, verdict}
use Rattle.store_file.specs.Spelling.{run_spelling}

abbrev pub run : List ℕ
run = codes "run"

-- the answer tells what the bytes are; want of memory tells nothing
abbrev pub Decodes : Result (List RunCell) RunError → Verdict → Type 0
Decodes (Ok all) v = v ≡ Run all
Decodes (Err (BadRun at rule)) v = v ≡ Broken at rule
Decodes (Err (StoreFault kind count)) v = ⊥
Decodes (Err Gone) v = ⊥
Decodes (Err Exists) v = ⊥
Decodes (Err Memory) v = Unit {0}

-- What one cell, taken from these bytes of a file of so many, leaves to be read; or that the bytes break a rule there,
-- whatever number of cells is due from there on.
abbrev pub Judges : ℕ → List RunCell → List RunCell → List ℕ → Result (Bor (List ℕ)) RunError → Type 0
Judges total old new bytes (Ok rest) =
    (length rest.now ≤ length bytes) × ((more : ℕ) → cells total (suc more) old bytes ≡ cells total more new rest.now)
Judges total old new bytes (Err e) = (more : ℕ) → Decodes (Err e) (cells total (suc more) old bytes)

-- the store failed, or memory ran out
abbrev pub IsStopped : RunError → Type 0
IsStopped (BadRun at rule) = ⊥
IsStopped (StoreFault kind count) = Unit {0}
IsStopped Gone = ⊥
IsStopped Exists = ⊥
IsStopped Memory = Unit {0}

-- the file of that name is a run of these cells
pub record IsRunOf (c : Contents) (name : List ℕ) (all : List RunCell) : Type 0 where
  pub file : File
  pub there : c.files run name ≡ Some file
  pub whole : verdict file.bytes ≡ Run all

-- the file of that name isn't a run
pub record IsNoRun (c : Contents) (name : List ℕ) (at rule : ℕ) : Type 0 where
  pub file : File
  pub there : c.files run name ≡ Some file
  pub broken : verdict file.bytes ≡ Broken at rule

abbrev pub ReadsRun : List ℕ → Contents → Result (List RunCell) RunError → Type 0
ReadsRun name c (Ok all) = IsRunOf c name all
ReadsRun name c (Err (BadRun at rule)) = IsNoRun c name at rule
ReadsRun name c (Err (StoreFault kind count)) = c.files run name ≢ None
ReadsRun name c (Err Gone) = c.files run name ≡ None
ReadsRun name c (Err Exists) = ⊥
ReadsRun name c (Err Memory) = Unit {0}

-- the file has these bytes, and is open
pub record HasBytes (c : Contents) (name bytes : List ℕ) : Type 0 where
  pub file : File
  pub there : IsOpen c run name file
  pub same : file.bytes ≡ bytes

abbrev pub Appended : {T : Type 0} → List ℕ → List ℕ → Contents → Result T RunError → Type 0
Appended name bytes new (Ok _) = HasBytes new name bytes
Appended name bytes new (Err e) = IsStopped e

-- the file has these bytes, all of which are synced, and is open
abbrev pub whole_file : List ℕ → File
whole_file bytes = record { bytes = bytes; synced = length bytes; sealed = false }

abbrev pub Synced : {T : Type 0} → List ℕ → List ℕ → Contents → Result T RunError → Type 0
Synced name bytes new (Ok _) = new.files run name ≡ Some (whole_file bytes)
Synced name bytes new (Err e) = IsStopped e

-- Written and synced; or the folder doesn't stand, or the file stood, and nothing changed. After a fault, or for want of
-- memory, the file may stand, whole or in part.
abbrev pub WritesRun : {T : Type 0} → List ℕ → List RunCell → Contents → Contents → Result T RunError → Type 0
WritesRun name all old new (Ok _) = IsFree old run name × (new.files run name ≡ Some (whole_file (run_spelling all)))
WritesRun name all old new (Err (BadRun at rule)) = ⊥
WritesRun name all old new (Err (StoreFault kind count)) = IsFree old run name
WritesRun name all old new (Err Gone) = (old.stands run ≡ false) × (new ≡ old)
WritesRun name all old new (Err Exists) = (old.files run name ≢ None) × (new ≡ old)
WritesRun name all old new (Err Memory) = Unit {0}

-- a fact of the fault that is told
abbrev pub IfFault : RunError → (Call → ℕ → Type 0) → Type 0
IfFault (BadRun at rule) fact = Unit {0}
IfFault (StoreFault kind count) fact = fact kind count
IfFault Gone fact = Unit {0}
IfFault Exists fact = Unit {0}
IfFault Memory fact = Unit {0}

-- no count of faults falls, a told fault was counted, and nothing is planned
pub record Tells (old new : Tally) {T : Type 0} (result : Result T RunError) : Type 0 where
  pub kept : (k : Call) → old.faults k ≤ new.faults k
  pub fault : IfErr result (λ e. IfFault e (λ kind count. IsFault kind count old new))
  pub planned : new.planned ≡ old.planned
