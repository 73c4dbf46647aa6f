-- What a store keeps of its edits: an entry for each column, in order.
use Rattle.std.specs.Prelude.{ℕ, ◌≡◌, nat_lt, Bool, List, [], ◌∷◌, map, fold, Option, Some, None, if◌then◌else◌}
use Rattle.std.specs.Str.{bytes_eq}
use Rattle.std.specs.Cmp.Lexicographic.{slice_cmp}
use Rattle.std.specs.Ordering.{nat_cmp, match_ordering, is_lt, is_le}
use Rattle.std.specs.declared.cmp.Ordering.{Ordering}
use Rattle.std.specs.declared.cmp.Ordering.TheVariants.{Less}
use Rattle.rep_types.specs.Edit.{EditValue}
use Rattle.rep_types.specs.declared.cell.CellKind.{CellKind}
use Rattle.rep_types.specs.declared.cell.CellKind.TheVariants.{Put, Erase}
use Rattle.rep_types.specs.declared.cell.CellView.{CellView}
use Rattle.rep_model.specs.See.{Stamped, Version, versions, column_order, later_delete, is_hidden, view_of}
use Rattle.rep_model.specs.declared.views.Column.{Column}
use Rattle.table_cells.specs.declared.entry.Entry.{Entry}
use Rattle.table_cells.specs.declared.entry.Latest.{Latest}

abbrev pub column : Entry → Column
column e = record { row = e.row; family = e.family; qualifier = e.qualifier }

abbrev pub entry_order : Entry → Entry → Ordering
entry_order a b = column_order (column a) (column b)

-- what a put or a delete says
abbrev pub delete_of : ℕ → CellKind → Option ℕ
delete_of stamp (Put value) = None
delete_of stamp Erase = Some stamp

abbrev pub put_of : ℕ → CellKind → Option Latest
put_of stamp (Put value) = Some (record { stamp = stamp; value = value })
put_of stamp Erase = None

abbrev pub entry_of : Version → Entry
entry_of v = record {
  row = v.column.row;
  family = v.column.family;
  qualifier = v.column.qualifier;
  delete = delete_of v.stamp v.kind;
  put = put_of v.stamp v.kind;
}

-- what an older and a newer one say together
abbrev pub join_deletes : Option ℕ → Option ℕ → Option ℕ
join_deletes old None = old
join_deletes old (Some new) = later_delete old new

abbrev pub later : Latest → Latest → Latest
later old new = if nat_lt new.stamp old.stamp then old else new

abbrev pub join_puts : Option Latest → Option Latest → Option Latest
join_puts old None = old
join_puts None (Some new) = Some new
join_puts (Some old) (Some new) = Some (later old new)

abbrev pub joined : Entry → Entry → Entry
joined old new = record old { delete = join_deletes old.delete new.delete; put = join_puts old.put new.put }

-- a newer entry goes in its place, or joins the entry of its column
abbrev pub add : Entry → List Entry → List Entry
add n [] = n ∷ []
add n (e ∷ es) = match_ordering (entry_order n e) (n ∷ e ∷ es) (joined e n ∷ es) (e ∷ add n es)

abbrev added : List Entry → Entry → List Entry
added es n = add n es

abbrev pub add_all : List Entry → List Entry → List Entry
add_all es news = fold added es news

-- the entries of these edits
unfoldable pub kept : List EditValue → List Entry
kept edits = add_all [] (map entry_of (versions edits))

abbrev pub stamped : Latest → Stamped
stamped p = record { stamp = p.stamp; value = p.value }

abbrev shown_unless : Column → Option ℕ → Option Latest → Option CellView
shown_unless c delete None = None
shown_unless c delete (Some p) = if is_hidden delete p.stamp then None else Some (view_of c (stamped p))

-- what an entry shows
abbrev pub shown_of : Entry → Option CellView
shown_of e = shown_unless (column e) e.delete e.put

-- the entry's row is below the row, not above it, or the row
abbrev pub is_below_row : List ℕ → Entry → Bool
is_below_row row e = is_lt (slice_cmp nat_cmp e.row row)

abbrev pub is_upto_row : List ℕ → Entry → Bool
is_upto_row row e = is_le (slice_cmp nat_cmp e.row row)

abbrev pub is_of_row : List ℕ → Entry → Bool
is_of_row row e = bytes_eq e.row row

-- the column is below each of these
abbrev pub IsBelow : Column → List Column → Type 0
IsBelow c [] = Unit {0}
IsBelow c (d ∷ ds) = (column_order c d ≡ Less) × IsBelow c ds

-- each column is below all that follow
abbrev pub IsRising : List Column → Type 0
IsRising [] = Unit {0}
IsRising (c ∷ cs) = IsBelow c cs × IsRising cs
