-- What memory says of a cluster is what the state after the pair's journal says.
use Rattle.std.proofs.Common.{ℕ, ◌≡◌, Bool, true, false, List, length, map, Some, None, refl, ap, sym, ◌∙◌, subst}
use Rattle.std.proofs.lemmas.List.{length-map}
use Rattle.std.proofs.lemmas.Option.{none-some, same_Some}
use Rattle.rep_types.specs.declared.ids.Cluster.{Cluster}
use Rattle.rep_types.specs.declared.ids.Cluster.TheVariants.{A, B, C}
use Rattle.rep_types.specs.declared.record.Record.{Record}
use Rattle.rep_types.specs.declared.view.SideLine.{SideLine}
use Rattle.rep_types.specs.declared.view.StatusLine.{StatusLine}
use Rattle.rep_vault.specs.Contents.{Contents}
use Rattle.rep_vault.specs.Tallies.{Tally}
use Rattle.rep_model.specs.Runs.{state_of}
use Rattle.rep_model.specs.State as state
use Rattle.rep_model.specs.State.{Route, Pair, empty_side}
use Rattle.rep_model.specs.Words.{is_in}
use Rattle.rep_model.specs.declared.machine.Machine.{Machine}
use Rattle.rep_model.specs.declared.machine.Side.{Side}
use Rattle.cluster_core.specs.declared.parts.ClusterCore.{ClusterCore}
use Rattle.cluster_core.specs.declared.parts.Sent.{Sent}
use Rattle.cluster_core.specs.Does.{Reached, sent_of}
use Rattle.cluster_core.specs.Stands.{Stands}
use Rattle.pair_core.specs.Views.{side_view}
use Rattle.pair_core.specs.declared.sides.Sides.{Sides}
use Rattle.pair_core.specs.Pair.{PairValue, IsPair, both}
use Rattle.pair_core.specs.Sides.{Both, AllStand, core_of}
use Rattle.pair_core.specs.Views.{status_seen}
use Rattle.pair_core.proofs.Steps.{reached_now}

-- what is seen of a cluster in memory, of each state that it stands for
abbrev pub Sees : ClusterCore → (Cluster → Machine → Type 0) → Type 0
Sees core P = (way : Route) (c : Contents) (m : Machine) → Reached way m → is_in way core.own ≡ true → Stands core.own c core (state.of core.own m) → P core.own m

-- of a cluster of the pair, which the core is of
of_core : (own : Cluster) (c : Contents) (core : ClusterCore) (m : Machine) → Reached Pair m → is_in Pair own ≡ true → Stands own c core (state.of own m) → (P : Cluster → Machine → Type 0) → Sees core P → P own m
of_core own c core m reached here stands P sees = subst (λ (d : Cluster). P d m) stands.own_is
    (sees Pair c m reached (ap (is_in Pair) stands.own_is ∙ here) (subst (λ (d : Cluster). Stands d c core (state.of d m)) (sym stands.own_is) stands))

of_one : (stores : Both Contents) (sides : Sides) (m : Machine) → Reached Pair m → AllStand stores sides m → (c : Cluster) (core : ClusterCore) → core_of c sides ≡ Some core → (P : Cluster → Machine → Type 0) → Sees core P → P c m
of_one stores sides m reached all A core e P sees = of_core A stores.a sides.a m reached refl all.a P (subst (λ (k : ClusterCore). Sees k P) (sym (same_Some sides.a core e)) sees)
of_one stores sides m reached all B core e P sees = of_core B stores.b sides.b m reached refl all.b P (subst (λ (k : ClusterCore). Sees k P) (sym (same_Some sides.b core e)) sees)
of_one stores sides m reached all C core e P sees = absurd (none-some core e)

of_none : (stores : Both Contents) (sides : Sides) (m : Machine) → AllStand stores sides m → (c : Cluster) → core_of c sides ≡ None → empty_side ≡ state.of c m
of_none stores sides m all A e = absurd (none-some sides.a (sym e))
of_none stores sides m all B e = absurd (none-some sides.b (sym e))
of_none stores sides m all C e = sym all.third

-- what is said of each state that memory and both stores stand for
now_said : {V : Type 0} (contents : V → Contents) (tally : V → Tally) (p : PairValue V) (journal : List Record) (spent : Bool) (sides : Sides) (a b : V) → p ≡ record { journal = journal; spent = spent; a = a; b = b }
    → IsPair contents tally journal spent sides a b → (P : List Record → Type 0) → (Reached Pair (state_of journal) → AllStand (both contents a b) sides (state_of journal) → P journal) → p.spent ≡ false → P p.journal
now_said contents tally p journal spent sides a b is pair P said =
    subst (λ (q : PairValue _). q.spent ≡ false → P q.journal) (sym is) (λ e. said (reached_now journal pair.legal) (pair.stand e))

-- one of the two
pub seen_now : {V : Type 0} (contents : V → Contents) (tally : V → Tally) (p : PairValue V) (journal : List Record) (spent : Bool) (sides : Sides) (a b : V) → p ≡ record { journal = journal; spent = spent; a = a; b = b }
    → IsPair contents tally journal spent sides a b → (c : Cluster) (core : ClusterCore) → core_of c sides ≡ Some core → (P : Cluster → Machine → Type 0) → Sees core P → p.spent ≡ false → P c (state_of p.journal)
seen_now contents tally p journal spent sides a b is pair c core e P sees =
    now_said contents tally p journal spent sides a b is pair (λ (rs : List Record). P c (state_of rs)) (λ reached all. of_one (both contents a b) sides (state_of journal) reached all c core e P sees)

-- a third one has nothing
pub unseen_now : {V : Type 0} (contents : V → Contents) (tally : V → Tally) (p : PairValue V) (journal : List Record) (spent : Bool) (sides : Sides) (a b : V) → p ≡ record { journal = journal; spent = spent; a = a; b = b }
    → IsPair contents tally journal spent sides a b → (c : Cluster) → core_of c sides ≡ None → (P : Side → Type 0) → P empty_side → p.spent ≡ false → P (state.of c (state_of p.journal))
unseen_now contents tally p journal spent sides a b is pair c e P nothing =
    now_said contents tally p journal spent sides a b is pair (λ (rs : List Record). P (state.of c (state_of rs))) (λ reached all. subst P (of_none (both contents a b) sides (state_of journal) all c e) nothing)

flight_count : (flights : List Sent) (m : Machine) → flights ≡ map (sent_of Pair) m.flights → length flights ≡ length m.flights
flight_count flights m are = ap (λ (fs : List Sent). length fs) are ∙ length-map m.flights (sent_of Pair)

-- the whole of both
pub status_now : {V : Type 0} (contents : V → Contents) (tally : V → Tally) (p : PairValue V) (journal : List Record) (spent : Bool) (sides : Sides) (a b : V) → p ≡ record { journal = journal; spent = spent; a = a; b = b }
    → IsPair contents tally journal spent sides a b → (x y : SideLine) → Sees sides.a (λ own m. x ≡ side_view (state.of own m)) → Sees sides.b (λ own m. y ≡ side_view (state.of own m))
    → (flights records : ℕ) → flights ≡ length sides.flights → records ≡ length journal
    → p.spent ≡ false → (let line : StatusLine = record { a = x; b = y; flights = flights; records = records } in line) ≡ status_seen (length p.journal) (state_of p.journal)
status_now contents tally p journal spent sides a b is pair x y see_a see_b flights records flown told =
    now_said contents tally p journal spent sides a b is pair (λ (rs : List Record). (let line : StatusLine = record { a = x; b = y; flights = flights; records = records } in line) ≡ status_seen (length rs) (state_of rs))
    (λ reached all.
    let m : Machine = state_of journal in
    let at_a : x ≡ side_view m.a = of_one (both contents a b) sides m reached all A sides.a refl (λ own k. x ≡ side_view (state.of own k)) see_a in
    let at_b : y ≡ side_view m.b = of_one (both contents a b) sides m reached all B sides.b refl (λ own k. y ≡ side_view (state.of own k)) see_b in
    let sent : flights ≡ length m.flights = flown ∙ flight_count sides.flights m all.flights in
    λ i. record { a = at_a i; b = at_b i; flights = sent i; records = told i })
