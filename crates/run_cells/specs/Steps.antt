-- What the steps of the pass over cells say.
use Rattle.std.specs.Prelude.{Bool, false, Option, Some, None}
use Rattle.store_file.specs.declared.cell.RunCell.{RunCell}
use Rattle.run_cells.specs.Outdone.{is_at}

-- there is one, of the cell's column
abbrev pub has_place : RunCell → Option RunCell → Bool
has_place c None = false
has_place c (Some d) = is_at c d
