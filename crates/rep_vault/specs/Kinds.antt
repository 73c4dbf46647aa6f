-- The plans and faults of one kind of call.
use Rattle.std.specs.Prelude.{ℕ, ◌≡◌, ◌+◌, ◌≤◌, ◌==◌, Option, Some, is_some, if◌then◌else◌}
use Rattle.std.specs.Ordering.{nat_cmp}
use Rattle.std.specs.BTreeMap.{get}
use Rattle.rep_vault.specs.declared.kind.Kind.{Kind}

-- how many bytes the nth next call leaves, if it is to fail
abbrev pub ahead : Kind → ℕ → Option ℕ
ahead kind n = get nat_cmp kind.due (kind.calls + n)

-- a call was made: what was planned for the next but one is planned for the next, and what was due is a fault
pub record Passed (old new : Kind) : Type 0 where
  pub next : (n : ℕ) → 1 ≤ n → ahead new n ≡ ahead old (n + 1)
  pub faults : new.faults ≡ old.faults + (if is_some (ahead old 1) then 1 else 0)
  pub planned : new.planned ≡ old.planned

-- the nth next call is to fail, and leave so many bytes
pub record Planned (nth bytes : ℕ) (old new : Kind) : Type 0 where
  pub due : (n : ℕ) → ahead new n ≡ (if n == nth then Some bytes else ahead old n)
  pub faults : new.faults ≡ old.faults
  pub planned : new.planned ≡ old.planned + 1

-- nothing was planned and nothing failed
pub record Unchanged (old new : Kind) : Type 0 where
  pub due : (n : ℕ) → ahead new n ≡ ahead old n
  pub faults : new.faults ≡ old.faults
  pub planned : new.planned ≡ old.planned
