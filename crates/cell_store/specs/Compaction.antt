-- What a compaction leaves.
use Rattle.std.specs.Prelude.{ℕ, ◌≡◌, ◌≢◌, ◌||◌, Bool, false, List, [], ◌∷◌, Some, None}
use Rattle.std.specs.List.{list_any}
use Rattle.rep_types.specs.declared.cell.CellView.{CellView}
use Rattle.rep_vault.specs.Contents.{Contents}
use Rattle.rep_vault.specs.Calls.{IsFree}
use Rattle.store_file.specs.declared.cell.RunCell.{RunCell}
use Rattle.store_file.specs.declared.error.RunError.{RunError}
use Rattle.store_file.specs.declared.error.RunError.TheVariants.{BadRun, StoreFault, Gone, Exists, Memory}
use Rattle.store_file.specs.Spelling.{run_spelling}
use Rattle.store_file.specs.Stored.{run, whole_file}
use Rattle.run_cells.specs.Outdone.{compacted}
use Rattle.cell_store.specs.declared.named.NamedRun.{NamedRun}
use Rattle.cell_store.specs.Cells.{any_named, AreApart, StoreValue}
use Rattle.cell_store.specs.Reading.{every_row, AreWanted, Shows}
use Rattle.cell_store.specs.Writing.{all_rows}

-- of the cells of these runs, those that count among them
pub record Survive (c : Contents) (runs : List NamedRun) (kept : List RunCell) : Type 0 where
  pub all : List RunCell
  pub wants : AreWanted every_row (any_named c runs) all
  pub counts : kept ≡ compacted all

-- one run with all of its rows; none where there is no cell
abbrev pub runs_of : List ℕ → List RunCell → List NamedRun
runs_of name [] = []
runs_of name (k ∷ ks) = record { name = name; range = all_rows } ∷ []

-- a new file has these cells; nothing is written where there is none
abbrev pub IsWritten : List ℕ → List RunCell → Contents → Contents → Type 0
IsWritten name [] old new = new ≡ old
IsWritten name (k ∷ ks) old new = IsFree old run name × (new.files run name ≡ Some (whole_file (run_spelling (k ∷ ks))))

-- memory stays, and of the runs' cells those that count among them stand in a new run, which alone is named
pub record IsCompacted (name : List ℕ) (c after : Contents) (old new : StoreValue) : Type 0 where
  pub kept : List RunCell
  pub survive : Survive c old.runs kept
  pub written : IsWritten name kept c after
  pub value : new ≡ record { memory = old.memory; runs = runs_of name kept }

-- Why it stops: the folder doesn't stand, or the file stood, and nothing changed; or after a fault, or for want of memory, the file
-- may stand, whole or in part.
abbrev pub Refuses : List ℕ → Contents → Contents → RunError → Type 0
Refuses name old new (BadRun at rule) = ⊥
Refuses name old new (StoreFault kind count) = Unit {0}
Refuses name old new Gone = (old.stands run ≡ false) × (new ≡ old)
Refuses name old new Exists = (old.files run name ≢ None) × (new ≡ old)
Refuses name old new Memory = Unit {0}

-- the cells that the tests tell, with further ones
abbrev pub beside : List RunCell → ((RunCell → Bool) → Bool) → (RunCell → Bool) → Bool
beside more any test = any test || list_any test more

-- Any read shows the same of both, also beside any further cells, whatever their ranks, while no two of all stand at one place.
abbrev pub ShowAlike : ((RunCell → Bool) → Bool) → ((RunCell → Bool) → Bool) → Type 0
ShowAlike before now = (wanted : List ℕ → Bool) (more : List RunCell) (views views' : List CellView) → AreApart (beside more before)
    → Shows wanted (beside more before) views → Shows wanted (beside more now) views' → views' ≡ views
