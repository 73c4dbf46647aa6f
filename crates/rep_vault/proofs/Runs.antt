-- What the plans and counts are after a call of a kind.
use Rattle.std.proofs.Common.{◌≡◌, ℕ, ◌-◌, ◌^◌, ◌<◌, Bool, true, false, Some, None, Result, Ok, Err, ap, sym, arith, rules, subst, true≢false}
use Rattle.std.specs.Prelude.{IsErrOf, IsSome, OnOk, OnErr, IfSome}
use Rattle.rep_types.specs.declared.memory.Memory as rep
use Rattle.rep_types.specs.declared.state.Call.{Call}
use Rattle.rep_vault.specs.declared.store.VaultError.{VaultError}
use Rattle.rep_vault.specs.declared.store.VaultError.TheVariants.{Failed, Gone, Sealed, Exists, Memory}
use Rattle.rep_vault.specs.declared.plans.Plans.{Plans}
use Rattle.rep_vault.specs.Tallies.{CountsNone, Counted, PlansOne}
use Rattle.rep_vault.specs.Kinds.{ahead}
use Rattle.rep_vault.specs.Plans.{Runs, Strikes, PassesOne, PlansAt, AreUnchanged, of_kind, faults_of, planned_of}
use Rattle.rep_vault.specs.Laws.{fit}
use Rattle.rep_vault.specs.Memory.{tally_in, ahead_in, Uses, Raises, RaisesNone, IsUncounted, FollowsIn, PlansAhead}

one_more : (k : Call) (old new : Plans) → PassesOne k old new → IsSome (ahead (of_kind k old) 1) → faults_of old k < faults_of new k
one_more k old new passes due = grind (arith, passes.here.faults)

-- equal for each kind, they are equal
same_planned : (p q : Plans) → ((k : Call) → planned_of q k ≡ planned_of p k) → Some (planned_of q) ≡ Some (planned_of p)
same_planned p q each = λ i. Some (λ k. each k i)

untold : {T : Type 0} (k : Call) (p q : Plans) (result : Result T VaultError) → (IsErrOf result Failed → ⊥) → q ≡ p → Counted k (tally_in p) (tally_in q) result
unfolding tally_in
untold k p q result other e = record { kept = λ j. omega (arith, ap (λ x. faults_of x j) e); failed = λ h. absurd (other h); most = λ h. absurd (other h); memory = λ _ j. ap (λ x. faults_of x j) e; planned = ap (λ x. Some (planned_of x)) e }

pub counted : {T : Type 0} (k : Call) (p q : Plans) (result : Result T VaultError) → Runs k p q result → Counted k (tally_in p) (tally_in q) result
unfolding tally_in
counted k p q (Ok x) runs = record { kept = runs.1.kept; failed = search rules; most = search rules; memory = search rules; planned = same_planned p q runs.1.planned }
counted k p q (Err Failed) runs = record { kept = runs.1.kept; failed = λ _. one_more k p q runs.1 runs.0; most = λ _. omega (arith, fit p); memory = λ h. cc; planned = same_planned p q runs.1.planned }
counted k p q (Err Gone) runs = untold k p q (Err Gone) (λ h. cc) runs
counted k p q (Err Exists) runs = untold k p q (Err Exists) (λ h. cc) runs
counted k p q (Err Sealed) runs = untold k p q (Err Sealed) (λ h. cc) runs
counted k p q (Err Memory) runs = untold k p q (Err Memory) (λ h. cc) runs

uses : (k : Call) (p q : Plans) → PassesOne k p q → Uses k p q
unfolding ahead_in
uses k p q passes = record { next = passes.here.next; others = λ j n apart. ap (λ x. ahead x n) (passes.others j apart) }

raises : (k : Call) (p q : Plans) → PassesOne k p q → IsSome (ahead (of_kind k p) 1) → Raises k (tally_in p) (tally_in q)
unfolding tally_in
raises k p q passes due = record { here = grind (arith, passes.here.faults); others = λ j apart. ap (λ x. x.faults) (passes.others j apart) }

raises_none : (k : Call) (p q : Plans) → PassesOne k p q → ahead (of_kind k p) 1 ≡ None → RaisesNone (tally_in p) (tally_in q)
unfolding tally_in
raises_none k p q passes none = record { each = passes.fine none }

uncounted : (p q : Plans) → q ≡ p → IsUncounted p q
uncounted p q e = (ap ahead_in e, ap tally_in e)

pub follows : {T : Type 0} (k : Call) (p q : Plans) (result : Result T VaultError) → Runs k p q result → FollowsIn k p q result
unfolding ahead_in
follows k p q (Ok x) runs = (runs.0, uses k p q runs.1, raises_none k p q runs.1 runs.0)
follows k p q (Err Failed) runs = (runs.0, uses k p q runs.1, raises k p q runs.1 runs.0)
follows k p q (Err Gone) runs = uncounted p q runs
follows k p q (Err Exists) runs = uncounted p q runs
follows k p q (Err Sealed) runs = uncounted p q runs
follows k p q (Err Memory) runs = uncounted p q runs

-- a call that is struck fails, and one that isn't is made in the end
struck : (k : Call) (p q : Plans) (b : Bool) → Strikes k p q b → b ≡ true → IsSome (ahead (of_kind k p) 1) × PassesOne k p q
struck k p q true s e = s
struck k p q false s e = absurd (true≢false (sym e))

passed : (k : Call) (p q z : Plans) (b : Bool) → Strikes k p q b → b ≡ false → PassesOne k q z → (ahead (of_kind k p) 1 ≡ None) × PassesOne k p z
passed k p q z true s e passes = absurd (true≢false e)
passed k p q z false s e passes = (s.0, subst (λ x. PassesOne k x z) s.1 passes)

pub struck_counted : {T : Type 0} (k : Call) (p q : Plans) (b : Bool) → Strikes k p q b → b ≡ true → Counted {T = T} k (tally_in p) (tally_in q) (Err Failed)
struck_counted k p q b s e = counted k p q (Err Failed) (struck k p q b s e)

pub struck_follows : (k : Call) (p q : Plans) (b : Bool) → Strikes k p q b → b ≡ true → IsSome (ahead_in p k 1) × Uses k p q × Raises k (tally_in p) (tally_in q)
struck_follows k p q b s e = follows {T = ℕ} k p q (Err Failed) (struck k p q b s e)

pub passed_counted : {T : Type 0} (x : T) (k : Call) (p q z : Plans) (b : Bool) → Strikes k p q b → b ≡ false → PassesOne k q z → Counted {T = T} k (tally_in p) (tally_in z) (Ok x)
passed_counted x k p q z b s e passes = counted k p z (Ok x) (passed k p q z b s e passes)

pub passed_follows : (k : Call) (p q z : Plans) (b : Bool) → Strikes k p q b → b ≡ false → PassesOne k q z → (ahead_in p k 1 ≡ None) × Uses k p z × RaisesNone (tally_in p) (tally_in z)
passed_follows k p q z b s e passes = follows {T = ℕ} k p z (Ok 0) (passed k p q z b s e passes)

-- plans that are made
pub plans_one : (k : Call) (nth bytes : ℕ) (p q : Plans) (result : Result (Unit {0}) rep.Memory) → OnOk result (PlansAt k nth bytes p q) → OnOk result (PlansOne k (tally_in p) (tally_in q))
unfolding tally_in
plans_one k nth bytes p q (Ok x) plans = record { kept = plans.kept; planned = λ i. Some (λ j. plans.planned j i) }
plans_one k nth bytes p q (Err e) plans = tt

pub plans_ahead : (k : Call) (nth bytes : ℕ) (p q : Plans) (result : Result (Unit {0}) rep.Memory) → OnOk result (PlansAt k nth bytes p q) → OnOk result (PlansAhead k nth bytes (ahead_in p) (ahead_in q))
unfolding ahead_in
plans_ahead k nth bytes p q (Ok x) plans = record { here = plans.here.due; others = λ j n apart. ap (λ y. ahead y n) (plans.others j apart) }
plans_ahead k nth bytes p q (Err e) plans = tt

pub same_tally : (p q : Plans) (result : Result (Unit {0}) rep.Memory) → OnErr result (AreUnchanged p q) → OnErr result (tally_in q ≡ tally_in p)
unfolding tally_in
same_tally p q (Ok x) same = tt
same_tally p q (Err e) same = λ i. record { faults = λ k. (same.each k).faults i; planned = Some (λ k. (same.each k).planned i) }

pub same_ahead : (p q : Plans) (result : Result (Unit {0}) rep.Memory) → OnErr result (AreUnchanged p q) → OnErr result (ahead_in q ≡ ahead_in p)
unfolding ahead_in
same_ahead p q (Ok x) same = tt
same_ahead p q (Err e) same = λ i k n. (same.each k).due n i

-- the plans are as at the start
pub counts_none : (p : Plans) → ((k : Call) → faults_of p k ≡ 0) → ((k : Call) → planned_of p k ≡ 0) → CountsNone (tally_in p)
unfolding tally_in
counts_none p none unplanned = record { faults = none; planned = unplanned }

pub none_planned : (p : Plans) → ((k : Call) → planned_of p k ≡ 0) → (tally_in p).planned ≡ Some (λ _. 0)
unfolding tally_in
none_planned p none = λ i. Some (λ k. none k i)

pub none_ahead : (p : Plans) → ((k : Call) (n : ℕ) → ahead (of_kind k p) n ≡ None) → (k : Call) (n : ℕ) → ahead_in p k n ≡ None
unfolding ahead_in
none_ahead p none k n = none k n

pub room : (k : Call) (p : Plans) → IfSome (tally_in p).planned (λ n. n k < 2 ^ 32 - 1) → planned_of p k < 2 ^ 32 - 1
unfolding tally_in
room k p h = h
