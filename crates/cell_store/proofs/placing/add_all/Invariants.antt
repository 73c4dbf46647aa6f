use Rattle.std.proofs.Common.{◌+◌, ◌≤◌, length, vec_len, vec_capacity}
use Rattle.cell_store.proofs.Places.{Placing}
use Rattle.cell_store.proofs.placing.add_all.Given as goal

abbrev pub invariant-loop-new : goal.invariant-loop-new
invariant-loop-new l = record {
  next : (goal.iterator-loop-new).can_next l.new-iterator;
  ends : (goal.iterator-loop-new).is_finite l.new-iterator;
  room : vec_len l.cells + length l.new-iterator.rest.items ≤ vec_capacity l.cells;
  placing : Placing l.initial.cells.items l.initial.new-iterator.rest.items l.cells.items l.new-iterator.rest.items;
}
