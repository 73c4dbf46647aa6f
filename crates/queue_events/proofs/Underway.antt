-- A delivery goes on by one form, stops at one, or ends.
use Rattle.std.proofs.Common.{ℕ, zero, suc, ◌+◌, ◌<◌, ◌≤◌, ◌≡◌, ◌||◌, Bool, true, false, cond, List, [], ◌∷◌, fold, length, drop, get_or, drop-cons, add-one, Option, Some, None, Result, Ok, Err, refl, ap, sym, ◌∙◌, subst, arith, eq-eqb, ne_eqb}
use Rattle.std.specs.Prelude.{nat_lt}
use Rattle.std.specs.List.{AllByRecursion}
use Rattle.std.proofs.lemmas.Bool.{true≢false}
use Rattle.std.proofs.lemmas.Bool.Decides.{nat_tests}
use Rattle.rep_types.specs.declared.ids.Cluster.{Cluster}
use Rattle.rep_types.specs.declared.reply.Cause.{Cause}
use Rattle.rep_vault.specs.Contents.{Contents}
use Rattle.rep_vault.specs.Tallies.{Tally}
use Rattle.rep_model.specs.Keyed.{given}
use Rattle.rep_model.specs.State.{of}
use Rattle.rep_model.specs.QueueEvents.{arrives, delivered, fails_at, stopped}
use Rattle.rep_model.specs.declared.faults.Failing.{Failing}
use Rattle.rep_model.specs.declared.machine.Form.{Form}
use Rattle.rep_model.specs.declared.machine.Machine.{Machine}
use Rattle.cluster_core.specs.declared.parts.ClusterCore.{ClusterCore}
use Rattle.cluster_core.specs.declared.parts.CoreError.{CoreError}
use Rattle.cluster_core.specs.declared.parts.CoreError.TheVariants as failed
use Rattle.cluster_core.specs.Does.{Counts}
use Rattle.cluster_core.specs.Stands.{Stands}
use Rattle.queue_events.specs.Acks.{put_in}
use Rattle.queue_events.specs.Arriving.{IsMidway, Takes, fault_of, fault_at, Arrives}
use Rattle.queue_events.specs.Delivering.{Delivers, DeliversOr, behind}
use Rattle.queue_events.specs.Underway.{IsUnderway}
use Rattle.queue_events.specs.declared.arriving.Arrived.{Arrived}
use Rattle.queue_events.specs.declared.arriving.Arrived.TheVariants.{Taken, Stopped}
use Rattle.queue_events.proofs.Merging.{waited_self, nothing_new}

-- ---- one form at a time

-- a delivery goes on by the form at a place
at_place : (p : ℕ) (synchronous : Bool) (c : Cluster) (failed : Option Failing) (i at : ℕ) (forms : List Form) (d : Form) (m : Machine) → at < length forms
    → delivered p synchronous c failed i (drop at forms) m ≡ arrives p synchronous (get_or forms at d) c i failed m (delivered p synchronous c failed (i + 1) (drop (at + 1) forms))
at_place p synchronous c failed i at forms d m h = rw (add-one at, drop-cons forms at d) refl

-- it stops there
stops : (p : ℕ) (synchronous : Bool) (c : Cluster) (failed : Option Failing) (fails : Option Cause) (i at : ℕ) (forms : List Form) (form : Form) (m after : Machine) (why : Cause)
    → at < length forms → form ≡ get_or forms at form → fails_at failed i ≡ fails → Takes p synchronous form c fails m (Some why) after
    → delivered p synchronous c failed i (drop at forms) m ≡ stopped after i why
unfolding given
stops p synchronous c failed fails i at forms form m after why h is there takes =
    at_place p synchronous c failed i at forms form m h ∙ rw (← is) (takes i failed (delivered p synchronous c failed (i + 1) (drop (at + 1) forms)) there)

-- or goes on from what the form left
goes_on : (p : ℕ) (synchronous : Bool) (c : Cluster) (failed : Option Failing) (fails : Option Cause) (i at : ℕ) (forms : List Form) (form : Form) (m after : Machine)
    → at < length forms → form ≡ get_or forms at form → fails_at failed i ≡ fails → Takes p synchronous form c fails m None after
    → delivered p synchronous c failed i (drop at forms) m ≡ delivered p synchronous c failed (i + 1) (drop (at + 1) forms) after
unfolding given
goes_on p synchronous c failed fails i at forms form m after h is there takes =
    at_place p synchronous c failed i at forms form m h ∙ rw (← is) (takes i failed (delivered p synchronous c failed (i + 1) (drop (at + 1) forms)) there)

pub all_at : {X : Type 0} (P : X → Type 0) (xs : List X) (at : ℕ) (d : X) → at < length xs → AllByRecursion P xs → P (get_or xs at d)
all_at P [] at d h a = absurd (omega arith)
all_at P (x ∷ xs) zero d h a = a.0
all_at P (x ∷ xs) (suc at) d h a = all_at P xs at d (omega arith) a.1

pub drop_end : {X : Type 0} (xs : List X) (n : ℕ) → length xs ≤ n → drop n xs ≡ []
drop_end [] zero h = refl
drop_end [] (suc n) h = refl
drop_end (x ∷ xs) zero h = absurd (omega arith)
drop_end (x ∷ xs) (suc n) h = drop_end xs n (omega arith)

up_one : (j at : ℕ) → j < at → j < at + 1
up_one j at h = omega arith

last_one : (at : ℕ) → at < at + 1
last_one at = omega arith

apart : (j at : ℕ) → j < at → at ≡ j → ⊥
apart j at h e = omega arith

-- a fault at this place is at none before it
earlier : (at : ℕ) (o : Option Cause) (j : ℕ) → j < at → fails_at (fault_at at o) j ≡ None
earlier at None j h = refl
earlier at (Some why) j h = ap (λ b. cond b (Some why) None) (ne_eqb at j (apart j at h))

here : (at : ℕ) (o : Option Cause) → fails_at (fault_at at o) at ≡ o
here at None = refl
here at (Some why) = ap (λ b. cond b (Some why) None) (eq-eqb at at refl)

pub begun : (own : Cluster) (peer : ℕ) (synchronous : Bool) (forms : List Form) (m : Machine) (c : Contents) (core : ClusterCore) → IsMidway own m → Stands own c core (of own m) → IsUnderway own peer synchronous forms m c core [] 0
begun own peer synchronous forms m c core way stands = record {
  now = m;
  midway = way;
  stands = stands;
  beside = λ d n. refl;
  flights = refl;
  waited = waited_self m.tickets;
  acks_are = sym (nothing_new 1 m.tickets);
  goes = λ failed h. refl;
}

module _ (own : Cluster) (peer : ℕ) (synchronous : Bool) (forms : List Form) (m : Machine) (old : Contents) (core : ClusterCore) (acks : List ℕ) (at : ℕ) (u : IsUnderway own peer synchronous forms m old core acks at) where
  pub went : (form : Form) (c : Contents) (w : ClusterCore) (tickets more : List ℕ) → at < length forms → form ≡ get_or forms at form → more ≡ fold put_in acks tickets → Arrives own peer synchronous form u.now old core c w (Ok (Taken tickets))
      → IsUnderway own peer synchronous forms m c w more (at + 1)
  went form c w tickets more less is added a = record {
    now = a.0;
    midway = a.2.midway;
    stands = a.2.stands;
    beside = λ d n. a.2.beside d n ∙ u.beside d n;
    flights = a.2.flights ∙ u.flights;
    waited = a.2.waited m.tickets u.waited;
    acks_are = added ∙ (ap (λ xs. fold put_in xs tickets) u.acks_are ∙ sym (a.2.acks m.tickets u.waited));
    goes = λ failed h. u.goes failed (λ j g. h j (up_one j at g)) ∙ goes_on peer synchronous own failed None at at forms form u.now a.0 less is (h at (last_one at)) a.1;
  }

  pub stopped_at : (form : Form) (c : Contents) (w : ClusterCore) (why : Cause) → at < length forms → form ≡ get_or forms at form → Arrives own peer synchronous form u.now old core c w (Ok (Stopped why))
      → Delivers own peer synchronous forms m c w (record { arrived = at; acks = acks; stop = Some why })
  stopped_at form c w why less is a = record {
    left = a.0;
    delivery = ap (λ (f : Option Failing). delivered peer synchronous own f 0 forms m) (a.3 at)
        ∙ (u.goes (fault_at at (fault_of why)) (earlier at (fault_of why))
        ∙ stops peer synchronous own (fault_at at (fault_of why)) (fault_of why) at at forms form u.now a.0 why less is (here at (fault_of why)) a.1);
    stands = a.2.stands;
    beside = λ d n. a.2.beside d n ∙ u.beside d n;
    flights = a.2.flights ∙ u.flights;
    acks_are = u.acks_are ∙ sym (a.2.acks m.tickets u.waited);
  }

  pub ended : drop at forms ≡ [] → Delivers own peer synchronous forms m old core (record { arrived = at; acks = acks; stop = None })
  ended none = record {
    left = u.now;
    delivery = u.goes None (λ j h. refl) ∙ ap (λ fs. delivered peer synchronous own None at fs u.now) none;
    stands = u.stands;
    beside = u.beside;
    flights = u.flights;
    acks_are = u.acks_are;
  }

-- memory ran out: it is as if nothing was done only where no form had arrived and this one changed nothing
pub fell_short : (own : Cluster) (peer : ℕ) (synchronous : Bool) (form : Form) (forms : List Form) (m now : Machine) (first old new : Contents) (core0 core core' : ClusterCore) (why : CoreError) (n : ℕ)
    → (n ≡ 0 → (core ≡ core0) × (old ≡ first)) → Arrives own peer synchronous form now old core new core' (Err why)
    → DeliversOr own peer synchronous forms m first core0 new core' (Err (behind why n))
fell_short own peer synchronous form forms m now first old new core0 core core' (failed.Memory changed) n same a = λ h.
    let parts = neither changed (nat_lt 0 n) h in
    let here = a parts.0 in
    let before = same (none n parts.1) in
    (here.0 ∙ before.0, here.1 ∙ before.1)
  where
    neither : (x y : Bool) → (x || y) ≡ false → (x ≡ false) × (y ≡ false)
    neither true y e = absurd (true≢false e)
    neither false y e = (refl, e)

    none : (k : ℕ) → nat_lt 0 k ≡ false → k ≡ 0
    none k e = grind (arith, nat_tests)

-- an arrival, where memory tells the cluster
pub by_own : (c own : Cluster) (peer : ℕ) (synchronous : Bool) (form : Form) (old new : Contents) (core core' : ClusterCore) (r : Result Arrived CoreError) → c ≡ own → ((m : Machine) → IsMidway c m → Stands c old core (of c m) → Arrives c peer synchronous form m old core new core' r)
    → (m : Machine) → IsMidway own m → Stands own old core (of own m) → Arrives own peer synchronous form m old core new core' r
by_own c own peer synchronous form old new core core' r is does = subst (λ (o : Cluster). (m : Machine) → IsMidway o m → Stands o old core (of o m) → Arrives o peer synchronous form m old core new core' r) is does

-- ---- counts of faults

upto : (a b c : ℕ) → a ≤ b → b ≤ c → a ≤ c
upto a b c h g = omega arith

pub counts_then : (old mid new : Tally) → Counts old mid → Counts mid new → Counts old new
counts_then old mid new a b = record { kept = λ k. upto (old.faults k) (mid.faults k) (new.faults k) (a.kept k) (b.kept k); planned = b.planned ∙ a.planned }
