-- What the steps say.
use Rattle.std.specs.Prelude.{ℕ, Bool, List, [], ◌∷◌, filter, All}
use Rattle.std.specs.Ordering.{match_ordering}
use Rattle.rep_vault.specs.Contents.{Contents}
use Rattle.store_file.specs.declared.cell.RunCell.{RunCell}
use Rattle.store_file.specs.Order.{run_order}
use Rattle.store_file.specs.Spelling.{IsShort, IsTypedCell}
use Rattle.cell_store.specs.declared.named.NamedRun.{NamedRun}
use Rattle.cell_store.specs.Cells.{named_cells}

-- the cell at its place in the order; where one stands there, that one is kept
abbrev pub placed : RunCell → List RunCell → List RunCell
placed n [] = n ∷ []
placed n (c ∷ cs) = match_ordering (run_order n c) (n ∷ c ∷ cs) (c ∷ cs) (c ∷ placed n cs)

abbrev pub of_rows : (List ℕ → Bool) → List RunCell → List RunCell
of_rows wanted cells = filter (λ c. wanted c.row) cells

-- the cells of the run are such as a run can be written of
pub record AreHeld (c : Contents) (r : NamedRun) : Type 0 where
  pub typed : All IsTypedCell (named_cells c r)
  pub short : All (λ (x : RunCell). IsShort x.kind) (named_cells c r)
