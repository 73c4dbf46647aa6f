-- The logs that hold a region's unflushed commits, and what reading them tells.
use Rattle.std.specs.Prelude.{ℕ, ◌≤◌, ◌≡◌, ◌==◌, ◌&&◌, nat_lt, Bool, List, [], ◌∷◌, ◌++◌, if◌then◌else◌, Result, Ok, Err}
use Rattle.rep_types.specs.declared.state.Call.{Call}
use Rattle.rep_types.specs.declared.state.Call.TheVariants as call
use Rattle.rep_types.specs.declared.entry.Entry.{Entry}
use Rattle.rep_vault.specs.Contents.{Contents}
use Rattle.rep_vault.specs.Tallies.{Tally}
use Rattle.wal_roll.specs.Blamed.{IsFault}
use Rattle.rep_model.specs.RegionEvents.{is_last}
use Rattle.log_split.specs.Logs.{HoldAll}
use Rattle.cluster_core.specs.declared.parts.Kept.{Kept}
use Rattle.cluster_core.specs.declared.parts.Shelf.{Shelf}
use Rattle.region_events.specs.declared.reading.ReadError.{ReadError}
use Rattle.region_events.specs.declared.reading.ReadError.TheVariants.{StoreFault, Memory}

-- the commit is of the region, and above the sequence id
abbrev pub is_unflushed : ℕ → ℕ → Kept → Bool
is_unflushed r above k = (k.region == r) && nat_lt above k.seq

-- the log stands behind the others, once where it is the last already
abbrev pub with_log : ℕ → List ℕ → List ℕ
with_log l logs = if is_last l logs then logs else logs ++ l ∷ []

-- what one commit more makes of the logs
abbrev pub log_noted : ℕ → ℕ → Kept → List ℕ → List ℕ
log_noted r above k logs = if is_unflushed r above k then with_log k.log logs else logs

abbrev pub logs_after : ℕ → ℕ → List Kept → List ℕ → List ℕ
logs_after r above [] logs = logs
logs_after r above (k ∷ ks) logs = logs_after r above ks (log_noted r above k logs)

-- the logs of a server that hold commits of the region above the sequence id, in order
abbrev pub unflushed_logs : ℕ → ℕ → Shelf → List ℕ
unflushed_logs r above shelf = logs_after r above shelf.kept []

-- each of them has whole frames, and at most a part of one more
abbrev pub IsReadable : Contents → ℕ → ℕ → Shelf → Type 0
IsReadable c r above shelf = (all : List Entry) × HoldAll c shelf.server (unflushed_logs r above shelf) all

-- a fact of the fault that is told
abbrev pub IfFault : {T : Type 0} → Result T ReadError → (ℕ → Type 0) → Type 0
IfFault (Ok x) fact = Unit {0}
IfFault (Err (StoreFault count)) fact = fact count
IfFault (Err Memory) fact = Unit {0}

-- no count of faults falls, a told fault was counted, and nothing is planned
pub record ReadTells {T : Type 0} (old new : Tally) (result : Result T ReadError) : Type 0 where
  pub kept : (k : Call) → old.faults k ≤ new.faults k
  pub fault : IfFault result (λ n. IsFault call.Read n old new)
  pub planned : new.planned ≡ old.planned
