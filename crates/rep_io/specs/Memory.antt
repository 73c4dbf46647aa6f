-- Sources and sinks in memory, whose calls fail by a plan.
use Rattle.std.specs.Prelude.{◌≡◌, ℕ, Bool, if◌then◌else◌, ◌<◌, ◌≤◌, length, List, Contains}
use Rattle.rep_io.specs.Io.{next_count}
use Rattle.rep_io.specs.declared.plan.Plan.{Plan}

-- the bytes that are left, and the most that one call gives
pub record SourceValue : Type 0 where
  pub left : List ℕ
  pub most : ℕ
  pub plan : Plan

-- the bytes that are held, how many there may be, and the most that one call takes
pub record SinkValue : Type 0 where
  pub held : List ℕ
  pub room : ℕ
  pub most : ℕ
  pub plan : Plan

-- the next call is listed to fail
abbrev pub IsListed : Plan → Type 0
IsListed plan = Contains plan.failing (next_count plan.calls)

-- there are bytes to be added, and there is no room
abbrev pub HasNoRoom : SinkValue → ℕ → Type 0
HasNoRoom sink len = (0 < len) × (sink.room ≤ length sink.held)

-- one call was counted, and a fault if it failed
pub record Counts (failed : Bool) (old new : Plan) : Type 0 where
  pub failing : new.failing ≡ old.failing
  pub calls : new.calls ≡ next_count old.calls
  pub faults : new.faults.count ≡ (if failed then next_count old.faults.count else old.faults.count)
