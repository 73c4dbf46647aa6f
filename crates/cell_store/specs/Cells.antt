-- Which cells a store has over a vault: those in its memory, and those of the runs that it names, as their files have them and
-- within their ranges.
use Rattle.std.specs.Prelude.{ℕ, ◌≡◌, ◌||◌, Bool, true, List, [], map, filter, Option, Some, None}
use Rattle.std.specs.List.{list_any}
use Rattle.std.specs.declared.cmp.Ordering.TheVariants.{Equal}
use Rattle.rep_types.specs.declared.cell.Cell.{Cell}
use Rattle.rep_types.specs.declared.entry.Rank.{Rank}
use Rattle.rep_types.specs.Edit.{EditValue}
use Rattle.rep_vault.specs.Contents.{File, Contents}
use Rattle.store_file.specs.declared.cell.RunCell.{RunCell}
use Rattle.store_file.specs.Order.{run_order}
use Rattle.store_file.specs.Run.{Verdict, Run, Broken, verdict}
use Rattle.store_file.specs.Stored.{run, IsRunOf}
use Rattle.run_cells.specs.Merged.{is_within}
use Rattle.cell_store.specs.declared.named.NamedRun.{NamedRun}

pub record StoreValue : Type 0 where
  pub memory : List RunCell
  pub runs : List NamedRun

abbrev pub cells_told : Verdict → List RunCell
cells_told (Run cells) = cells
cells_told (Broken at rule) = []

abbrev pub file_cells : Option File → List RunCell
file_cells None = []
file_cells (Some file) = cells_told (verdict file.bytes)

-- as the file has them, within the range
abbrev pub named_cells : Contents → NamedRun → List RunCell
named_cells c r = filter (is_within r.range) (file_cells (c.files run r.name))

-- some cell of these runs passes the test
abbrev pub any_named : Contents → List NamedRun → (RunCell → Bool) → Bool
any_named c runs test = list_any (λ r. list_any test (named_cells c r)) runs

-- some cell of the store passes the test
abbrev pub any_cell : Contents → StoreValue → (RunCell → Bool) → Bool
any_cell c s test = list_any test s.memory || any_named c s.runs test

-- Of cells that are told by the tests that some of them pass: this one is among them.
abbrev pub Holds : ((RunCell → Bool) → Bool) → RunCell → Type 0
Holds any c = (test : RunCell → Bool) → test c ≡ true → any test ≡ true

-- two of them at one place in the order of runs are one cell
abbrev pub AreApart : ((RunCell → Bool) → Bool) → Type 0
AreApart any = (c d : RunCell) → Holds any c → Holds any d → run_order c d ≡ Equal → c ≡ d

-- a run stands under that name
abbrev pub IsThere : Contents → NamedRun → Type 0
IsThere c r = (all : List RunCell) × IsRunOf c r.name all

abbrev pub ranked : List ℕ → Rank → Cell → RunCell
ranked row rank c = record { row = row; family = c.family; qualifier = c.qualifier; stamp = c.stamp; kind = c.kind; rank = rank }

-- the cells of an edit, each with the rank
abbrev pub edit_cells : EditValue → Rank → List RunCell
edit_cells e rank = map (ranked e.row rank) e.cells

-- a cell of memory or of the edit passes the test
abbrev pub any_new : List RunCell → EditValue → Rank → (RunCell → Bool) → Bool
any_new memory e rank test = list_any test memory || list_any test (edit_cells e rank)
