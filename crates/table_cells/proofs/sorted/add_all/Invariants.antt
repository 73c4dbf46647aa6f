use Rattle.std.proofs.Common.{◌≡◌, ◌+◌, ◌≤◌, map, length, vec_len, vec_capacity}
use Rattle.table_cells.specs.Entries.{column, add_all, IsRising}
use Rattle.table_cells.proofs.sorted.add_all.Given as goal

abbrev pub invariant-loop-new : goal.invariant-loop-new
invariant-loop-new l = record {
  next : (goal.iterator-loop-new).can_next l.new-iterator;
  ends : (goal.iterator-loop-new).is_finite l.new-iterator;
  rising : IsRising (map column l.entries.items);
  room : vec_len l.entries + length l.new-iterator.rest.items ≤ vec_capacity l.entries;
  kept : add_all l.entries.items l.new-iterator.rest.items ≡ add_all l.initial.entries.items l.initial.new-iterator.rest.items;
}
