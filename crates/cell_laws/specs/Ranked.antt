-- Cells in the order of their ranks, each as an edit of its own.
use Rattle.std.specs.Prelude.{ℕ, ◌≡◌, Bool, false, List, [], ◌∷◌}
use Rattle.std.specs.List.{list_any}
use Rattle.std.specs.Ordering.{is_lt}
use Rattle.rep_types.specs.Edit.{EditValue}
use Rattle.rep_types.specs.declared.cell.Cell.{Cell}
use Rattle.store_file.specs.declared.cell.RunCell.{RunCell}
use Rattle.store_file.specs.Order.{rank_order}

abbrev pub cell_of : RunCell → Cell
cell_of c = record { family = c.family; qualifier = c.qualifier; stamp = c.stamp; kind = c.kind }

-- the edit that writes the cell alone
abbrev pub edit_of : List ℕ → RunCell → EditValue
edit_of table c = record { table = table; row = c.row; cells = cell_of c ∷ [] }

-- the second has the smaller rank
abbrev pub is_ranked_below : RunCell → RunCell → Bool
is_ranked_below c d = is_lt (rank_order d.rank c.rank)

-- of no cell does a later one have a smaller rank
abbrev pub NeverFalls : List RunCell → Type 0
NeverFalls [] = Unit {0}
NeverFalls (c ∷ cs) = (list_any (is_ranked_below c) cs ≡ false) × NeverFalls cs
