use Rattle.std.proofs.Common.{◌≡◌, ◌-◌, ◌<◌, ◌≤◌, ◌⊎◌, true, false, length, slice_index}
use Rattle.region_meta.specs.Orders.{begins_by}
use Rattle.region_meta.proofs.order.last_from.Given as goal

abbrev pub invariant-loop-end : goal.invariant-loop-end
invariant-loop-end l = record {
  apart : l.first < l.end;
  within : l.end ≤ length l.places;
  begins : (l.first ≡ 0) ⊎ (begins_by l.regions l.row (slice_index l.places l.first) ≡ true);
  next : l.end < length l.places → begins_by l.regions l.row (slice_index l.places l.end) ≡ false;
}

abbrev pub decreases-loop-end : goal.decreases-loop-end
decreases-loop-end l = l.end - l.first
