-- What a read of a store gives.
use Rattle.std.specs.Prelude.{ℕ, ◌≡◌, ◌&&◌, Bool, true, List}
use Rattle.std.specs.List.{list_any}
use Rattle.rep_types.specs.declared.cell.CellView.{CellView}
use Rattle.store_file.specs.declared.cell.RunCell.{RunCell}
use Rattle.store_file.specs.Order.{are_in_order}
use Rattle.run_cells.specs.Outdone.{shown}

abbrev pub every_row : List ℕ → Bool
every_row row = true

-- of the cells told by tests, those of wanted rows, in order
pub record AreWanted (wanted : List ℕ → Bool) (any : (RunCell → Bool) → Bool) (all : List RunCell) : Type 0 where
  pub in_order : are_in_order all ≡ true
  pub cells : (test : RunCell → Bool) → list_any test all ≡ any (λ c. wanted c.row && test c)

-- they show these
pub record Shows (wanted : List ℕ → Bool) (any : (RunCell → Bool) → Bool) (views : List CellView) : Type 0 where
  pub all : List RunCell
  pub wants : AreWanted wanted any all
  pub shows : views ≡ shown all
