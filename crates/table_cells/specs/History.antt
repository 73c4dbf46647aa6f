-- The edits that were applied to a store, in order.
use Rattle.std.specs.Prelude.{List, [], ◌∷◌, ◌++◌}
use Rattle.rep_types.specs.Edit.{EditValue}
use Rattle.table_cells.specs.declared.applied.Applied.{Applied, Nothing, Then'}

abbrev pub edits_of : Applied → List EditValue
edits_of Nothing = []
edits_of (Then' p before edit) = edits_of before ++ edit.value ∷ []
