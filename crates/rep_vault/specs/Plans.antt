-- The plans and faults of all kinds of calls.
use Rattle.std.specs.Prelude.{ℕ, ◌≡◌, ◌+◌, ◌≤◌, Bool, true, false, None, IsSome, Result, Ok, Err, if◌then◌else◌}
use Rattle.std.specs.Borrow.{Lends, MutBor, Fml}
use Rattle.rep_types.specs.declared.state.Call.{Call}
use Rattle.rep_types.specs.declared.state.Call.TheVariants as call
use Rattle.rep_vault.specs.declared.kind.Kind.{Kind}
use Rattle.rep_vault.specs.contracts.kind.Kind as kind
use Rattle.rep_vault.specs.declared.plans.Plans.{Plans}
use Rattle.rep_vault.specs.contracts.plans.Plans as plans
use Rattle.rep_vault.specs.declared.store.VaultError.{VaultError}
use Rattle.rep_vault.specs.declared.store.VaultError.TheVariants.{Failed, Gone, Sealed, Exists, Memory}
use Rattle.rep_vault.specs.Tallies.{same}
use Rattle.rep_vault.specs.Kinds.{ahead, Passed, Planned, Unchanged}

abbrev pub of_kind : Call → Plans → Kind
of_kind call.Create p = p.create
of_kind call.Append p = p.append
of_kind call.Sync p = p.sync
of_kind call.Seal p = p.seal
of_kind call.Read p = p.read
of_kind call.Make p = p.make
of_kind call.Rename p = p.rename
of_kind call.Remove p = p.remove
of_kind call.List p = p.list
of_kind call.Put p = p.put

abbrev chosen : Call → Call → Kind → Kind → Kind
chosen j k x y = if same j k then x else y

-- x in the place of that kind
abbrev pub with_kind : Call → Plans → Kind → Plans
with_kind k p x = record {
  create = chosen call.Create k x p.create;
  append = chosen call.Append k x p.append;
  sync = chosen call.Sync k x p.sync;
  seal = chosen call.Seal k x p.seal;
  read = chosen call.Read k x p.read;
  make = chosen call.Make k x p.make;
  rename = chosen call.Rename k x p.rename;
  remove = chosen call.Remove k x p.remove;
  list = chosen call.List k x p.list;
  put = chosen call.Put k x p.put;
}

-- the plans end with the last value behind r as that kind's
abbrev pub LendsKind : MutBor Plans → Call → MutBor Kind → Fml
LendsKind s k r = Lends plans.the_row kind.the_row s r (with_kind k s.now)

abbrev pub faults_of : Plans → Call → ℕ
faults_of p k = (of_kind k p).faults

-- how many failures of a kind were planned
abbrev pub planned_of : Plans → Call → ℕ
planned_of p k = (of_kind k p).planned

-- a call of that kind was made
pub record PassesOne (k : Call) (old new : Plans) : Type 0 where
  pub here : Passed (of_kind k old) (of_kind k new)
  pub others : (j : Call) → same j k ≡ false → of_kind j new ≡ of_kind j old
  pub kept : (j : Call) → faults_of old j ≤ faults_of new j
  pub fine : ahead (of_kind k old) 1 ≡ None → (j : Call) → faults_of new j ≡ faults_of old j
  pub planned : (j : Call) → planned_of new j ≡ planned_of old j

-- a call of that kind is to fail and was made, or isn't to fail and wasn't made
abbrev pub Strikes : Call → Plans → Plans → Bool → Type 0
Strikes k old new true = IsSome (ahead (of_kind k old) 1) × PassesOne k old new
Strikes k old new false = (ahead (of_kind k old) 1 ≡ None) × (new ≡ old)

-- a call of that kind with this result: it fails exactly where that is due, and a refused one isn't counted
abbrev pub Runs : {T : Type 0} → Call → Plans → Plans → Result T VaultError → Type 0
Runs k old new (Ok _) = (ahead (of_kind k old) 1 ≡ None) × PassesOne k old new
Runs k old new (Err Failed) = IsSome (ahead (of_kind k old) 1) × PassesOne k old new
Runs k old new (Err Gone) = new ≡ old
Runs k old new (Err Exists) = new ≡ old
Runs k old new (Err Sealed) = new ≡ old
Runs k old new (Err Memory) = new ≡ old

-- the nth next call of that kind is to fail
pub record PlansAt (k : Call) (nth bytes : ℕ) (old new : Plans) : Type 0 where
  pub here : Planned nth bytes (of_kind k old) (of_kind k new)
  pub others : (j : Call) → same j k ≡ false → of_kind j new ≡ of_kind j old
  pub kept : (j : Call) → faults_of new j ≡ faults_of old j
  pub planned : (j : Call) → planned_of new j ≡ planned_of old j + (if same j k then 1 else 0)

-- nothing was planned and nothing failed
pub record AreUnchanged (old new : Plans) : Type 0 where
  pub each : (j : Call) → Unchanged (of_kind j old) (of_kind j new)
