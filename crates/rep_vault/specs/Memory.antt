-- A store in memory: what it holds, and what is planned.
use Rattle.std.specs.Prelude.{ℕ, ◌≡◌, ◌+◌, ◌≤◌, ◌==◌, false, List, take, Option, Some, None, IsSome, Result, Ok, Err, if◌then◌else◌}
use Rattle.rep_types.specs.declared.state.Call.{Call}
use Rattle.rep_vault.specs.declared.store.VaultError.{VaultError}
use Rattle.rep_vault.specs.declared.store.VaultError.TheVariants.{Failed, Gone, Sealed, Exists, Memory}
use Rattle.rep_vault.specs.declared.plans.Plans.{Plans}
use Rattle.rep_vault.specs.declared.memory.MemVault.{MemVault}
use Rattle.rep_vault.specs.Contents.{File, Contents, with_file}
use Rattle.rep_vault.specs.Tallies.{Tally, same}
use Rattle.rep_vault.specs.Kinds.{ahead}
use Rattle.rep_vault.specs.Plans.{of_kind, faults_of, planned_of}
use Rattle.rep_vault.specs.Calls.{longer}
use Rattle.rep_vault.specs.Stored.{kept_length, keep_after}
use Rattle.rep_vault.specs.Folders.{Folders, Records, stands_in, file_in, record_in}

-- what maps hold
unfoldable pub contents_in : Folders → Records → Contents
contents_in folders records = record { stands = stands_in folders; files = file_in folders; records = record_in records }

abbrev pub contents_of : MemVault → Contents
contents_of v = contents_in v.folders v.records

-- what is counted
unfoldable pub tally_in : Plans → Tally
tally_in p = record { faults = faults_of p; planned = Some (planned_of p) }

abbrev pub tally_of : MemVault → Tally
tally_of v = tally_in v.plans

-- how many bytes the nth next call of a kind leaves, if it is to fail
unfoldable pub ahead_in : Plans → Call → ℕ → Option ℕ
ahead_in p k n = ahead (of_kind k p) n

abbrev pub ahead_of : MemVault → Call → ℕ → Option ℕ
ahead_of v = ahead_in v.plans

-- how many bytes of the tail the next seal of an unsealed file keeps
abbrev pub keep_of : MemVault → Option ℕ
keep_of v = v.keep

-- a call of that kind is made: what was planned for the next but one is planned for the next
pub record Uses (k : Call) (old new : Plans) : Type 0 where
  pub next : (n : ℕ) → 1 ≤ n → ahead_in new k n ≡ ahead_in old k (n + 1)
  pub others : (j : Call) (n : ℕ) → same j k ≡ false → ahead_in new j n ≡ ahead_in old j n

-- the count of that kind rises by one, and the others stay
pub record Raises (k : Call) (old new : Tally) : Type 0 where
  pub here : new.faults k ≡ old.faults k + 1
  pub others : (j : Call) → same j k ≡ false → new.faults j ≡ old.faults j

-- no count rises
pub record RaisesNone (old new : Tally) : Type 0 where
  pub each : (j : Call) → new.faults j ≡ old.faults j

-- nothing is counted
abbrev pub IsUncounted : Plans → Plans → Type 0
IsUncounted old new = (ahead_in new ≡ ahead_in old) × (tally_in new ≡ tally_in old)

abbrev pub FollowsIn : {T : Type 0} → Call → Plans → Plans → Result T VaultError → Type 0
FollowsIn k old new (Ok _) = (ahead_in old k 1 ≡ None) × Uses k old new × RaisesNone (tally_in old) (tally_in new)
FollowsIn k old new (Err Failed) = IsSome (ahead_in old k 1) × Uses k old new × Raises k (tally_in old) (tally_in new)
FollowsIn k old new (Err Gone) = IsUncounted old new
FollowsIn k old new (Err Exists) = IsUncounted old new
FollowsIn k old new (Err Sealed) = IsUncounted old new
FollowsIn k old new (Err Memory) = IsUncounted old new

-- A call of that kind fails exactly where that is planned, and raises its count by one. One that is refused, or finds no
-- memory, isn't counted.
abbrev pub Follows : {T : Type 0} → Call → MemVault → MemVault → Result T VaultError → Type 0
Follows k old new result = FollowsIn k old.plans new.plans result

-- a failing append leaves so many bytes of its piece, or all of it where it is shorter
abbrev pub AppendsFirst : {T : Type 0} → List ℕ → List ℕ → List ℕ → Option ℕ → Contents → Contents → Result T VaultError → Type 0
AppendsFirst f n piece due old new (Err Failed) = (x : File) × (most : ℕ) × (due ≡ Some most) × (old.files f n ≡ Some x) × (new ≡ with_file f n (longer (take most piece) x) old)
AppendsFirst f n piece due old new (Ok _) = Unit {0}
AppendsFirst f n piece due old new (Err Gone) = Unit {0}
AppendsFirst f n piece due old new (Err Exists) = Unit {0}
AppendsFirst f n piece due old new (Err Sealed) = Unit {0}
AppendsFirst f n piece due old new (Err Memory) = Unit {0}

-- The length at which a file is sealed: with what is to be kept of the unsynced tail, if it wasn't sealed. That plan is then
-- used up, and else it stays.
abbrev pub SealsAt : List ℕ → List ℕ → Contents → Option ℕ → Option ℕ → Result ℕ VaultError → Type 0
SealsAt f n c keep left (Ok len) = (x : File) × (c.files f n ≡ Some x) × (len ≡ kept_length keep x) × (left ≡ keep_after keep x)
SealsAt f n c keep left (Err Failed) = left ≡ keep
SealsAt f n c keep left (Err Gone) = left ≡ keep
SealsAt f n c keep left (Err Exists) = left ≡ keep
SealsAt f n c keep left (Err Sealed) = left ≡ keep
SealsAt f n c keep left (Err Memory) = left ≡ keep

-- the nth next call of that kind is to fail and leave so many bytes, and all else is as planned before
pub record PlansAhead (k : Call) (nth bytes : ℕ) (old new : Call → ℕ → Option ℕ) : Type 0 where
  pub here : (n : ℕ) → new k n ≡ (if n == nth then Some bytes else old k n)
  pub others : (j : Call) (n : ℕ) → same j k ≡ false → new j n ≡ old j n
