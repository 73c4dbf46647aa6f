use Rattle.std.proofs.Common.{◌≡◌, take}
use Rattle.std.specs.List.{filter_map}
use Rattle.table_cells.specs.Entries.{shown_of}
use Rattle.table_cells.proofs.show.show.Given as goal

abbrev pub invariant-loop-entry : goal.invariant-loop-entry
invariant-loop-entry l = l.views ≡ filter_map shown_of (take l.entry-index l.entries)
