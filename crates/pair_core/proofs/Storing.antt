-- Where memory and a store stand for a state, the store holds what it is to hold.
use Rattle.std.proofs.Common.{ℕ, ◌≡◌, Bool, true, false, List, map, find, Option, Some, None, sym, subst}
use Rattle.rep_types.specs.declared.ids.Cluster.TheVariants.{A, B}
use Rattle.rep_types.specs.declared.record.Record.{Record}
use Rattle.rep_vault.specs.Tallies.{Tally}
use Rattle.rep_model.specs.Runs.{step_of, state_of, faults_of}
use Rattle.rep_model.specs.State.{Pair, is_server}
use Rattle.rep_model.specs.Words.{is_paired}
use Rattle.rep_laws.specs.Settled.{IsSettled}
use Rattle.rep_laws.proofs.Settling.{settled_state}
use Rattle.pair_core.specs.Pair.{PairValue, IsPair, both}
use Rattle.rep_types.specs.declared.ids.Cluster.{Cluster}
use Rattle.rep_vault.specs.Contents.{Contents}
use Rattle.rep_model.specs.declared.machine.Machine.{Machine}
use Rattle.rep_model.specs.declared.machine.Side.{Side}
use Rattle.rep_model.specs.declared.machine.Server.{Server}
use Rattle.cluster_core.specs.declared.parts.ClusterCore.{ClusterCore}
use Rattle.cluster_core.specs.declared.parts.Station.{Station}
use Rattle.cluster_core.specs.Stands.{Stands, StationAt, is_station}
use Rattle.pair_core.specs.declared.sides.Sides.{Sides}
use Rattle.pair_core.specs.Sides.{Both, AllStand, Covers}
use Rattle.pair_core.specs.Stored.{LogsAt, Holds, Stored}
use Rattle.pair_core.specs.Told.{CountsTold}

logs_at : (c : Contents) (side : Side) (s : ℕ) (st : Option Station) (srv : Option Server) → StationAt c side s st srv → LogsAt c side s srv
logs_at c side s (Some st) (Some srv) at = (st.host, at.logs)
logs_at c side s None None at = at
logs_at c side s (Some st) None at = absurd at
logs_at c side s None (Some srv) at = absurd at

holds : (own : Cluster) (c : Contents) (core : ClusterCore) (side : Side) → Stands own c core side → Holds c side
holds own c core side stands = record {
  folder = stands.folder;
  logs = λ s. logs_at c side s (find (is_station s) core.stations) (find (is_server s) side.servers) (stands.servers s);
  records = stands.records;
}

pub all_stored : (stores : Both Contents) (sides : Sides) (m : Machine) → AllStand stores sides m → Stored stores m
all_stored stores sides m all = record { a = holds _ stores.a sides.a m.a all.a; b = holds _ stores.b sides.b m.b all.b }

-- ---- what a pair says of its state

pub stored_now : {V : Type 0} (contents : V → Contents) (tally : V → Tally) (p : PairValue V) (journal : List Record) (spent : Bool) (sides : Sides) (a b : V) → p ≡ record { journal = journal; spent = spent; a = a; b = b }
    → IsPair contents tally journal spent sides a b → p.spent ≡ false → Stored (both contents p.a p.b) (state_of p.journal)
stored_now contents tally p journal spent sides a b is pair =
    subst (λ (q : PairValue _). q.spent ≡ false → Stored (both contents q.a q.b) (state_of q.journal)) (sym is) (λ e. all_stored (both contents a b) sides (state_of journal) (pair.stand e))

pub settled_now : {V : Type 0} (contents : V → Contents) (tally : V → Tally) (p : PairValue V) (journal : List Record) (spent : Bool) (sides : Sides) (a b : V) → p ≡ record { journal = journal; spent = spent; a = a; b = b }
    → IsPair contents tally journal spent sides a b → (c : Cluster) → is_paired c ≡ true → IsSettled c (state_of p.journal)
settled_now contents tally p journal spent sides a b is pair c paired =
    subst (λ (q : PairValue _). IsSettled c (state_of q.journal)) (sym is) (settled_state Pair (map step_of journal) c paired pair.legal)

pub covered_now : {V : Type 0} (contents : V → Contents) (tally : V → Tally) (p : PairValue V) (journal : List Record) (spent : Bool) (sides : Sides) (a b : V) → p ≡ record { journal = journal; spent = spent; a = a; b = b }
    → IsPair contents tally journal spent sides a b → Covers (faults_of p.journal A) (tally p.a) × Covers (faults_of p.journal B) (tally p.b)
covered_now contents tally p journal spent sides a b is pair =
    subst (λ (q : PairValue _). Covers (faults_of q.journal A) (tally q.a) × Covers (faults_of q.journal B) (tally q.b)) (sym is) (pair.covers_a, pair.covers_b)

pub told_now : {V : Type 0} (contents : V → Contents) (tally : V → Tally) (p : PairValue V) (journal : List Record) (spent : Bool) (sides : Sides) (a b : V) → p ≡ record { journal = journal; spent = spent; a = a; b = b }
    → IsPair contents tally journal spent sides a b → CountsTold A p.journal (tally p.a) × CountsTold B p.journal (tally p.b)
told_now contents tally p journal spent sides a b is pair =
    subst (λ (q : PairValue _). CountsTold A q.journal (tally q.a) × CountsTold B q.journal (tally q.b)) (sym is) (pair.told_a, pair.told_b)
