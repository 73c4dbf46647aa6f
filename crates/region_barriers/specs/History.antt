-- A region's barriers, and the range of a sequence id among them.
use Rattle.std.specs.Prelude.{◌≡◌, ℕ, ◌+◌, ◌-◌, ◌<◌, ◌≤◌, ◌↔◌, List, Option, Some, IfSome, IsTrue, length, slice_get}
use Rattle.std.specs.Option.{option_or}
use Rattle.region_barriers.specs.declared.parents.Parent.{Parent}
use Rattle.region_barriers.specs.declared.barriers.Range.{Range}

pub record History : Type 0 where
  pub parents : List Parent
  pub barriers : List ℕ
  pub final_barrier : Option ℕ

abbrev pub last_barrier : History → Option ℕ
last_barrier h = slice_get h.barriers (length h.barriers - 1)

-- the range of an id: it begins with the last barrier that the id reaches, and ends with the next
-- one, or after the last with the final barrier, if there is one
pub record IsRangeOf (h : History) (seq : ℕ) (range : Range) : Type 0 where
  pub place : ℕ
  pub begins : slice_get h.barriers place ≡ Some range.barrier
  pub reached : range.barrier ≤ seq
  pub last_reached : IfSome (slice_get h.barriers (place + 1)) (λ next. seq < next)
  pub first : IsTrue range.first ↔ (place ≡ 0)
  pub end : range.end ≡ option_or (slice_get h.barriers (place + 1)) h.final_barrier
