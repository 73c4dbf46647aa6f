-- What a pair is seen as, and what it keeps.
use Rattle.std.specs.Prelude.{◌≡◌, ◌≤◌, Bool, false, List, length, Result, Ok, Err}
use Rattle.rep_types.specs.declared.ids.Cluster.{Cluster}
use Rattle.rep_types.specs.declared.ids.Cluster.TheVariants.{A, B, C}
use Rattle.rep_types.specs.declared.memory.Memory.{Memory}
use Rattle.rep_types.specs.declared.record.Record.{Record}
use Rattle.rep_types.specs.declared.state.Call.{Call}
use Rattle.rep_vault.specs.Contents.{Contents}
use Rattle.rep_vault.specs.Tallies.{Tally, PlansOne}
use Rattle.rep_model.specs.Runs.{IsLegal, state_of, faults_of}
use Rattle.pair_core.specs.declared.sides.Sides.{Sides}
use Rattle.pair_core.specs.Sides.{Both, AllStand, Covers}
use Rattle.pair_core.specs.Told.{CountsTold}

-- the journal, whether memory ran out in the middle of a change, and the two stores
pub record PairValue (V : Type 0) : Type 0 where
  pub journal : List Record
  pub spent : Bool
  pub a : V
  pub b : V

-- the contents of the two stores
abbrev pub both : {V X : Type 0} → (V → X) → V → V → Both X
both f a b = record { a = f a; b = f b }

-- The journal is legal; unless the pair is spent, memory and the stores stand for the state after it. No record tells more faults
-- than its store has counted, and of each kind of call a store has counted as many as records tell, or more.
pub record IsPair {V : Type 0} (contents : V → Contents) (tally : V → Tally) (journal : List Record) (spent : Bool) (sides : Sides) (a b : V) : Type 0 where
  pub legal : IsLegal journal
  pub stand : spent ≡ false → AllStand (both contents a b) sides (state_of journal)
  pub covers_a : Covers (faults_of journal A) (tally a)
  pub covers_b : Covers (faults_of journal B) (tally b)
  pub told_a : CountsTold A journal (tally a)
  pub told_b : CountsTold B journal (tally b)
  pub few : length (state_of journal).tickets ≤ length journal

-- the journal and what the stores hold stay
pub record IsSame {V : Type 0} (contents : V → Contents) (old new : PairValue V) : Type 0 where
  pub journal : new.journal ≡ old.journal
  pub spent : new.spent ≡ old.spent
  pub stores : both contents new.a new.b ≡ both contents old.a old.b

-- one more failure of that kind of call is planned in the cluster's store, unless memory ran out, and nothing in the other one; a third cluster has no store
abbrev pub IsPlanned : Cluster → Call → Both Tally → Both Tally → Result (Unit {0}) Memory → Type 0
IsPlanned A call old new (Ok _) = PlansOne call old.a new.a × (new.b ≡ old.b)
IsPlanned B call old new (Ok _) = PlansOne call old.b new.b × (new.a ≡ old.a)
IsPlanned C call old new (Ok _) = new ≡ old
IsPlanned c call old new (Err _) = new ≡ old
