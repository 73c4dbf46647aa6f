-- What a flush leaves.
use Rattle.std.specs.Prelude.{ℕ, List, [], ◌∷◌, ◌++◌, None}
use Rattle.rep_types.specs.Range.{Range}
use Rattle.cell_store.specs.Cells.{StoreValue}

abbrev pub all_rows : Range
all_rows = record { low = None; high = None }

-- the run is named after the others, with all of its rows, and memory is empty
abbrev pub flushed : List ℕ → StoreValue → StoreValue
flushed name s = record { memory = []; runs = s.runs ++ record { name = name; range = all_rows } ∷ [] }
