-- The order of the cells in a run.
use Rattle.std.specs.Prelude.{Bool, true, List, [], ◌∷◌, ◌&&◌, Option, Some, None}
use Rattle.std.specs.Cmp.Lexicographic.{slice_cmp}
use Rattle.std.specs.Ordering.{nat_cmp, ordering_then, is_lt}
use Rattle.std.specs.declared.cmp.Ordering.{Ordering}
use Rattle.rep_types.specs.declared.entry.Rank.{Rank}
use Rattle.store_file.specs.declared.cell.RunCell.{RunCell}

-- field by field
abbrev pub rank_order : Rank → Rank → Ordering
rank_order a b = ordering_then (nat_cmp a.generation b.generation) (ordering_then (nat_cmp a.seq b.seq) (nat_cmp a.replay b.replay))

-- by row, family and qualifier
abbrev pub place_order : RunCell → RunCell → Ordering
place_order a b =
    ordering_then (slice_cmp nat_cmp a.row b.row) (ordering_then (slice_cmp nat_cmp a.family b.family) (slice_cmp nat_cmp a.qualifier b.qualifier))

-- by timestamp and by rank, of which the greater comes first
abbrev pub age_order : RunCell → RunCell → Ordering
age_order a b = ordering_then (nat_cmp b.stamp a.stamp) (rank_order b.rank a.rank)

abbrev pub run_order : RunCell → RunCell → Ordering
run_order a b = ordering_then (place_order a b) (age_order a b)

-- the cell is behind this one, where there is one
abbrev pub is_behind : Option RunCell → RunCell → Bool
is_behind None c = true
is_behind (Some before) c = is_lt (run_order before c)

-- the first is behind this one, and each other behind the one before it
abbrev pub are_behind : Option RunCell → List RunCell → Bool
are_behind before [] = true
are_behind before (c ∷ cs) = is_behind before c && are_behind (Some c) cs

abbrev pub are_in_order : List RunCell → Bool
are_in_order cells = are_behind None cells
