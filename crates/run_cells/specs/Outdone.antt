-- Which cells of a table count, and what they show.
use Rattle.std.specs.Prelude.{◌==◌, ◌&&◌, nat_le, not, Bool, true, false, List, filter, Option, Some, None}
use Rattle.std.specs.List.{filter_map, list_any}
use Rattle.std.specs.Ordering.{is_lt, is_eq}
use Rattle.rep_types.specs.declared.cell.CellKind.{CellKind}
use Rattle.rep_types.specs.declared.cell.CellKind.TheVariants.{Put, Erase}
use Rattle.rep_types.specs.declared.cell.CellView.{CellView}
use Rattle.store_file.specs.declared.cell.RunCell.{RunCell}
use Rattle.store_file.specs.Order.{place_order, age_order}

-- they are of one row, family and qualifier
abbrev pub is_at : RunCell → RunCell → Bool
is_at c d = is_eq (place_order c d)

-- and of one timestamp
abbrev pub is_twin : RunCell → RunCell → Bool
is_twin c d = is_at c d && c.stamp == d.stamp

abbrev pub is_delete_kind : CellKind → Bool
is_delete_kind (Put value) = false
is_delete_kind Erase = true

abbrev pub is_delete : RunCell → Bool
is_delete c = is_delete_kind c.kind

-- A delete hides the puts at or below its timestamp, whatever their ranks. Of two puts, as of two deletes, the one with the greater
-- timestamp counts, of equal timestamps the one with the greater rank. A put takes nothing from a delete.
abbrev pub outdone_as : RunCell → RunCell → CellKind → CellKind → Bool
outdone_as c d (Put v) (Put w) = is_lt (age_order d c)
outdone_as c d (Put v) Erase = nat_le c.stamp d.stamp
outdone_as c d Erase (Put w) = false
outdone_as c d Erase Erase = is_lt (age_order d c)

-- the second makes the first count for nothing
abbrev pub outdone_by : RunCell → RunCell → Bool
outdone_by c d = is_at c d && outdone_as c d c.kind d.kind

-- one of these does
abbrev pub is_outdone : List RunCell → RunCell → Bool
is_outdone cells c = list_any (outdone_by c) cells

abbrev pub counts_in : List RunCell → RunCell → Bool
counts_in cells c = not (is_outdone cells c)

-- of each column the greatest delete and the put that is shown, and nothing else
abbrev pub compacted : List RunCell → List RunCell
compacted cells = filter (counts_in cells) cells

abbrev put_view : RunCell → CellKind → Option CellView
put_view c (Put value) = Some (record { row = c.row; family = c.family; qualifier = c.qualifier; stamp = c.stamp; value = value })
put_view c Erase = None

abbrev pub view_of_put : RunCell → Option CellView
view_of_put c = put_view c c.kind

-- What these cells show: the puts that count. Whether one counts doesn't depend on the order of the cells.
unfoldable pub shown : List RunCell → List CellView
shown cells = filter_map view_of_put (compacted cells)
