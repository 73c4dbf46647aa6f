-- How many calls of each kind failed, and how many failures of each kind were planned.
use Rattle.std.specs.Prelude.{◌≡◌, ℕ, ◌+◌, ◌-◌, ◌^◌, ◌<◌, ◌≤◌, ◌==◌, Bool, Option, IfSome, Result, IsErrOf, if◌then◌else◌}
use Rattle.std.specs.Option.{option_map}
use Rattle.rep_types.specs.declared.state.Call.{Call}
use Rattle.rep_types.specs.declared.state.Call.TheVariants as call
use Rattle.rep_vault.specs.declared.store.VaultError.{VaultError}
use Rattle.rep_vault.specs.declared.store.VaultError.TheVariants.{Failed, Memory}

-- the failed calls of each kind, and how many failures of each kind were planned so far, where that is told
pub record Tally : Type 0 where
  pub faults : Call → ℕ
  pub planned : Option (Call → ℕ)

-- the number of a kind, by which kinds are compared
abbrev pub number : Call → ℕ
number call.Create = 0
number call.Append = 1
number call.Sync = 2
number call.Seal = 3
number call.Read = 4
number call.Make = 5
number call.Rename = 6
number call.Remove = 7
number call.List = 8
number call.Put = 9

-- the same kind of call
abbrev pub same : Call → Call → Bool
same j k = number j == number k

-- the sum over the kinds
abbrev pub total : (Call → ℕ) → ℕ
total n = n call.Create + n call.Append + n call.Sync + n call.Seal + n call.Read + n call.Make + n call.Rename + n call.Remove + n call.List + n call.Put

-- the faults are a number of 64 bits, and those of each kind no more than were planned of it
pub record IsBounded (t : Tally) : Type 0 where
  pub fits : total t.faults < 2 ^ 64
  pub planned : (k : Call) → IfSome t.planned (λ n. t.faults k ≤ n k)

-- No count falls. A call that failed raised the count of its kind, and none fails at the greatest sum. For want of memory no
-- count rises. Nothing is planned.
pub record Counted {T : Type 0} (kind : Call) (old new : Tally) (result : Result T VaultError) : Type 0 where
  pub kept : (k : Call) → old.faults k ≤ new.faults k
  pub failed : IsErrOf result Failed → old.faults kind < new.faults kind
  pub most : IsErrOf result Failed → total old.faults < 2 ^ 64 - 1
  pub memory : IsErrOf result Memory → (k : Call) → new.faults k ≡ old.faults k
  pub planned : new.planned ≡ old.planned

-- one more of that kind, and as many of the others
abbrev pub one_more : Call → (Call → ℕ) → Call → ℕ
one_more kind n k = n k + (if same k kind then 1 else 0)

-- one more failure of that kind is planned
pub record PlansOne (kind : Call) (old new : Tally) : Type 0 where
  pub kept : (k : Call) → new.faults k ≡ old.faults k
  pub planned : new.planned ≡ option_map (one_more kind) old.planned

-- no fault is counted, and none is planned
pub record CountsNone (t : Tally) : Type 0 where
  pub faults : (k : Call) → t.faults k ≡ 0
  pub planned : (k : Call) → IfSome t.planned (λ n. n k ≡ 0)
