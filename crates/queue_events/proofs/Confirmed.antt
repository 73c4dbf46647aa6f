-- When a flight may be recorded, and that recording it is the event's row.
use Rattle.std.proofs.Common.{ℕ, ◌≡◌, ◌==◌, not, true, false, List, [], ◌∷◌, map, find, length, is_some, Option, Some, None, option_map, refl, ap, sym, ◌∙◌, subst, eqb-true, eq-eqb, IfSome}
use Rattle.std.proofs.lemmas.Bool.{false≢true}
use Rattle.std.proofs.lemmas.Option.{none-some}
use Rattle.rep_types.specs.declared.ids.Cluster.{Cluster}
use Rattle.rep_types.specs.declared.ids.Cluster.TheVariants.{A, B, C}
use Rattle.rep_types.specs.declared.event.Event.TheVariants as event
use Rattle.rep_types.specs.declared.refusal.Refusal.{Refusal}
use Rattle.rep_types.specs.declared.refusal.Refusal.TheVariants as refusal
use Rattle.rep_types.specs.declared.reply.Reply.{Reply}
use Rattle.rep_types.specs.declared.reply.Reply.TheVariants as reply
use Rattle.rep_vault.specs.Contents.{Contents}
use Rattle.rep_model.specs.Keyed.{given, if_some, replace}
use Rattle.rep_model.specs.State.{Route, of, with, mark, is_peer, is_queue, is_flight, flight_of}
use Rattle.rep_model.specs.Words.{is_in}
use Rattle.rep_model.specs.Path.{refusal_of}
use Rattle.rep_model.specs.Plan.{Plan, told}
use Rattle.rep_model.specs.Peers.{is_enabled, peer_of}
use Rattle.rep_model.specs.Row.{Row, answers}
use Rattle.rep_model.specs.QueueEvents.{is_out, flown, landed, recorded, lives as lives_in, confirm_plan}
use Rattle.rep_model.specs.declared.machine.Machine.{Machine}
use Rattle.rep_model.specs.declared.machine.Side.{Side}
use Rattle.rep_model.specs.declared.machine.Peer.{Peer}
use Rattle.rep_model.specs.declared.machine.Queue.{Queue}
use Rattle.rep_model.specs.declared.machine.Flight.{Flight}
use Rattle.rep_model.specs.declared.machine.Commit.{Commit}
use Rattle.rep_laws.proofs.Citing.{is_refused}
use Rattle.rep_laws.proofs.Lists.{found_passes}
use Rattle.rep_laws.proofs.Sides.{of_with, flights_with}
use Rattle.rep_laws.proofs.Fronts.{noted}
use Rattle.cluster_core.specs.declared.parts.ClusterCore.{ClusterCore}
use Rattle.cluster_core.specs.declared.parts.Line.{Line}
use Rattle.cluster_core.specs.declared.parts.PeerLine.{PeerLine}
use Rattle.cluster_core.specs.declared.parts.Sent.{Sent}
use Rattle.cluster_core.specs.Memory.{queue_of_line}
use Rattle.cluster_core.specs.Stands.{Stands}
use Rattle.cluster_core.specs.Does.{Reached, sent_of, Flies}
use Rattle.cluster_core.specs.Lookups.{is_line}
use Rattle.cluster_core.specs.Lines.{added, lives, shelf_length, lands}
use Rattle.cluster_core.proofs.Simple.{beside_with}
use Rattle.cluster_core.proofs.Queued.{requeued, landed_stands}
use Rattle.queue_events.specs.Flights.{sent_at, IsFrom}
use Rattle.queue_events.specs.Confirming as memory
use Rattle.queue_events.proofs.Known.{mapped_none, mapped_some, sent_is, added_found, peer_absent, peer_known, queue_absent, queue_known, living_is}

-- ---- what speaks against it

pub no_flight : {way : Route} (m : Machine) (fs : List Sent) (k : ℕ) → Reached way m → fs ≡ map (sent_of way) m.flights → sent_at k fs ≡ None → refusal_of (confirm_plan k m) ≡ Some refusal.NoFlight
unfolding confirm_plan
no_flight {way} m fs k r flights e = rw (mapped_none (sent_of way) (flight_of k m) (sym (ap (sent_at k) flights ∙ sent_is m r k) ∙ e)) refl

-- a flight in memory is one of the state's, of this cluster
pub record HasFlight (way : Route) (own : Cluster) (c : Contents) (core : ClusterCore) (m : Machine) (k : ℕ) (s : Sent) : Type 0 where
  pub flight : Flight
  pub there : flight_of k m ≡ Some flight
  pub is : s ≡ sent_of way flight
  pub from : flight.cluster ≡ own
  pub stands : Stands flight.cluster c core (of flight.cluster m)

pub has_flight : {way : Route} (own : Cluster) (c : Contents) (core : ClusterCore) (m : Machine) (fs : List Sent) (k : ℕ) (s : Sent) → Reached way m → Stands own c core (of own m)
    → fs ≡ map (sent_of way) m.flights → IsFrom own k m → sent_at k fs ≡ Some s → HasFlight way own c core m k s
has_flight {way} own c core m fs k s r stands flights from e =
    let f = mapped_some (sent_of way) (flight_of k m) s (sym (ap (sent_at k) flights ∙ sent_is m r k) ∙ e) in
    let source : f.0.cluster ≡ own = subst (λ (o : Option Flight). IfSome o (λ (g : Flight). g.cluster ≡ own)) f.1 from in
    record { flight = f.0; there = f.1; is = sym f.2; from = source; stands = subst (λ (w : Cluster). Stands w c core (of w m)) (sym source) stands }

outs : (k : ℕ) (r : Option ℕ) → is_out k r ≡ true → r ≡ Some k
outs k None h = absurd (false≢true h)
outs k (Some n) h = ap Some (eqb-true n k h)

out_itself : (n : ℕ) → is_out n (Some n) ≡ true
out_itself n = eq-eqb n n refl

-- a known flight of the cluster
module _ (k : ℕ) (f : Flight) (c : Contents) (core : ClusterCore) (m : Machine) (there : flight_of k m ≡ Some f) (st : Stands f.cluster c core (of f.cluster m)) where
  pub no_peer : added f.peer core.peers ≡ None → refusal_of (confirm_plan k m) ≡ Some refusal.NoPeer
  unfolding confirm_plan
  no_peer e = rw (there, refusal_of, peer_absent f.cluster c core m st f.peer e) refl

  module _ (x : Peer) (known : peer_of f.cluster f.peer m ≡ Some x) where
    pub no_queue : find (is_line f.peer f.server) core.lines ≡ None → refusal_of (confirm_plan k m) ≡ Some (refusal.Stale None)
    unfolding confirm_plan given
    no_queue e = rw (there, refusal_of, known, refusal_of, queue_absent f.cluster c core m st f.peer f.server e) refl

    module _ (l : Line) (found : find (is_line f.peer f.server) core.lines ≡ Some l) where
      pub stale : is_out k l.flight ≡ false → refusal_of (confirm_plan k m) ≡ Some (refusal.Stale l.flight)
      unfolding confirm_plan given
      stale e = rw (there, refusal_of, known, refusal_of, queue_known f.cluster c core m st f.peer f.server l found, e) refl

      module _ (out : is_out k l.flight ≡ true) where
        pub owner_dead : lives l.owner core.stations ≡ false → refusal_of (confirm_plan k m) ≡ Some (refusal.OwnerDead l.owner)
        unfolding confirm_plan given
        owner_dead e =
            rw (there, refusal_of, known, refusal_of, queue_known f.cluster c core m st f.peer f.server l found, out, sym (living_is f.cluster c core m st l.owner) ∙ e) refl

        module _ (alive : lives l.owner core.stations ≡ true) where
          living : lives_in f.cluster l.owner m ≡ true
          living = sym (living_is f.cluster c core m st l.owner) ∙ alive

          pub not_delivered : f.delivered ≡ false → refusal_of (confirm_plan k m) ≡ Some (refusal.NotDelivered k)
          unfolding confirm_plan given
          not_delivered e = rw (there, refusal_of, known, refusal_of, queue_known f.cluster c core m st f.peer f.server l found, out, living, e) refl

          pub may : (way : Route) → f.delivered ≡ true → memory.MayConfirm way core k m (sent_of way f)
          may way e = record { flight = f; there = there; sent_is = refl; peer = x; known = known; line = l; found = found; out = outs k l.flight out; lives = living; delivered = e }

          -- and then it is recorded
          pub row_is : (n : ℕ) → f.delivered ≡ true → told (confirm_plan k m) (reply.Recorded n) m ≡ answers (reply.Recorded (length f.entries)) (landed f (recorded f.cluster f.peer f.entries m))
          unfolding confirm_plan given
          row_is n e = rw (there, told, known, told, queue_known f.cluster c core m st f.peer f.server l found, out, living, e) refl

-- the same, as memory tells it
module _ {way : Route} (own : Cluster) (c : Contents) (core : ClusterCore) (m : Machine) (k : ℕ) (s : Sent) (h : HasFlight way own c core m k s) where
  pub told_no_peer : added s.peer core.peers ≡ None → refusal_of (confirm_plan k m) ≡ Some refusal.NoPeer
  told_no_peer e = no_peer k h.flight c core m h.there h.stands (subst (λ (x : Sent). added x.peer core.peers ≡ None) h.is e)

  module _ (y : PeerLine) (there : added s.peer core.peers ≡ Some y) where
    peer : (x : Peer) × (peer_of h.flight.cluster h.flight.peer m ≡ Some x) × (is_enabled x.standing ≡ is_enabled y.standing)
    peer = peer_known h.flight.cluster c core m h.stands h.flight.peer y (subst (λ (x : Sent). added x.peer core.peers ≡ Some y) h.is there)

    pub told_no_queue : find (is_line s.peer s.server) core.lines ≡ None → refusal_of (confirm_plan k m) ≡ Some (refusal.Stale None)
    told_no_queue e = no_queue k h.flight c core m h.there h.stands peer.0 peer.1 (subst (λ (x : Sent). find (is_line x.peer x.server) core.lines ≡ None) h.is e)

    module _ (l : Line) (found : find (is_line s.peer s.server) core.lines ≡ Some l) where
      line : find (is_line h.flight.peer h.flight.server) core.lines ≡ Some l
      line = subst (λ (x : Sent). find (is_line x.peer x.server) core.lines ≡ Some l) h.is found

      pub told_stale : is_out k l.flight ≡ false → refusal_of (confirm_plan k m) ≡ Some (refusal.Stale l.flight)
      told_stale e = stale k h.flight c core m h.there h.stands peer.0 peer.1 l line e

      pub told_owner_dead : is_out k l.flight ≡ true → lives l.owner core.stations ≡ false → refusal_of (confirm_plan k m) ≡ Some (refusal.OwnerDead l.owner)
      told_owner_dead out e = owner_dead k h.flight c core m h.there h.stands peer.0 peer.1 l line out e

      module _ (out : is_out k l.flight ≡ true) (alive : lives l.owner core.stations ≡ true) where
        pub told_not_delivered : s.delivered ≡ false → refusal_of (confirm_plan k m) ≡ Some (refusal.NotDelivered k)
        told_not_delivered e =
            not_delivered k h.flight c core m h.there h.stands peer.0 peer.1 l line out alive (subst (λ (x : Sent). x.delivered ≡ false) h.is e)

        pub told_may : s.delivered ≡ true → memory.MayConfirm way core k m s
        told_may e = subst (memory.MayConfirm way core k m) (sym h.is)
            (may k h.flight c core m h.there h.stands peer.0 peer.1 l line out alive way (subst (λ (x : Sent). x.delivered ≡ true) h.is e))

-- ---- the state after it

landed_is : (c : Cluster) (p s : ℕ) (entries : List Commit) (x : Peer) (q : Queue) (m : Machine) → find (is_peer p) (of c m).peers ≡ Some x → find (is_queue p s) (of c m).queues ≡ Some q
    → flown c p s None (recorded c p entries m)
    ≡ with c (requeued (replace (is_peer x.number) (noted x entries) (of c m).peers) (replace (is_queue q.peer q.server) (record q { flight = None }) (of c m).queues) (of c m)) m
unfolding given
landed_is A p s entries x q m e f = rw e (rw f refl)
landed_is B p s entries x q m e f = rw e (rw f refl)
landed_is C p s entries x q m e f = rw e (rw f refl)

pub flies_as : {way : Route} (own : Cluster) (r : Row) (m left : Machine) (c : Contents) (core : ClusterCore) (fs : List Sent) (said : Reply) → r ≡ answers said left → Stands own c core (of own left)
    → ((d : Cluster) → (mark d == mark own) ≡ false → of d left ≡ of d m) → fs ≡ map (sent_of way) left.flights → Flies way own r m c core fs said
flies_as {way} own r m left c core fs said e stands beside flights =
    subst (λ (q : Row). Flies way own q m c core fs said) (sym e) (record { reply_is = refl; stands = stands; beside = beside; flights_are = flights })

-- a refusal of an event of flights
pub plan_refused : {way : Route} (own : Cluster) (p : Plan) (m : Machine) (c : Contents) (core : ClusterCore) (fs : List Sent) (why : Refusal) → refusal_of p ≡ Some why → Stands own c core (of own m)
    → fs ≡ map (sent_of way) m.flights → Flies way own (told p (reply.Refused why) m) m c core fs (reply.Refused why)
plan_refused own p m c core fs why e stands flights = flies_as own _ m m c core fs (reply.Refused why) (is_refused p why (reply.Refused why) m e) stands (λ d n. refl) flights

-- the flight is recorded
module _ {way : Route} (k : ℕ) (m : Machine) (c : Contents) (core : ClusterCore) (fs : List Sent) (s : Sent) (reached : Reached way m) (flights : fs ≡ map (sent_of way) m.flights) (may : memory.MayConfirm way core k m s) where
  abbrev flight : Flight
  flight = may.flight

  module _ (pair : is_in way may.flight.cluster ≡ true) (st : Stands may.flight.cluster c core (of may.flight.cluster m)) where
    pub recorded_flies : Flies way may.flight.cluster (told (confirm_plan k m) (reply.Recorded s.entries) m) m c (memory.landed s core) fs (reply.Recorded s.entries)
    unfolding given
    recorded_flies =
        let f : Flight = may.flight in
        let own : Cluster = f.cluster in
        let x : Peer = may.peer in
        let l : Line = may.line in
        let number : f.number ≡ k = eqb-true f.number k (found_passes (is_flight k) m.flights f may.there) in
        let known : find (is_peer f.peer) (of own m).peers ≡ Some x = added_found (find (is_peer f.peer) (of own m).peers) x may.known in
        let queue : find (is_queue f.peer f.server) (of own m).queues ≡ Some (queue_of_line l) = queue_known own c core m st f.peer f.server l may.found in
        let out : l.flight ≡ Some f.number = may.out ∙ ap Some (sym number) in
        let flying : find (is_flight f.number) m.flights ≡ Some f = ap (λ i. find (is_flight i) m.flights) number ∙ may.there in
        let side : Side = requeued (replace (is_peer x.number) (noted x f.entries) (of own m).peers) (replace (is_queue l.peer l.server) (record (queue_of_line l) { flight = None }) (of own m).queues) (of own m) in
        let left : landed f (recorded own f.peer f.entries m) ≡ with own side m = landed_is own f.peer f.server f.entries x (queue_of_line l) m known queue in
        let lines : memory.landed (sent_of way f) core ≡ record core { lines = replace (is_line f.peer f.server) (lands (length f.entries) (shelf_length f.server core.index.shelves) l) core.lines } =
        ap (λ (o : Option Line). record core { lines = given o core.lines (λ w. replace (is_line f.peer f.server) (lands (length f.entries) (shelf_length f.server core.index.shelves) w) core.lines) }) may.found in
        let stands : Stands own c (memory.landed (sent_of way f) core) (of own (with own side m)) =
        subst (λ (w : ClusterCore). Stands own c w (of own (with own side m))) (sym lines)
        (subst (Stands own c _) (sym (of_with own side m)) (landed_stands own c core m pair reached st f x l flying known may.found out)) in
        let alive : lives l.owner core.stations ≡ true = living_is own c core m st l.owner ∙ may.lives in
        let gone : is_out k l.flight ≡ true = ap (is_out k) may.out ∙ out_itself k in
        let row : told (confirm_plan k m) (reply.Recorded (length f.entries)) m ≡ answers (reply.Recorded (length f.entries)) (with own side m) =
        row_is k f c core m may.there st x may.known l may.found gone alive (length f.entries) may.delivered ∙ ap (answers (reply.Recorded (length f.entries))) left in
        subst (λ (w : Sent). Flies way own (told (confirm_plan k m) (reply.Recorded w.entries) m) m c (memory.landed w core) fs (reply.Recorded w.entries)) (sym may.sent_is)
        (flies_as own _ m (with own side m) c (memory.landed (sent_of way f) core) fs (reply.Recorded (length f.entries)) row stands (beside_with own side m) (flights ∙ ap (map (sent_of way)) (sym (flights_with own side m))))

-- the same, where memory tells the cluster
pub recorded_answer : {way : Route} (own : Cluster) (k : ℕ) (m : Machine) (c : Contents) (core core' : ClusterCore) (fs : List Sent) (s : Sent) → Reached way m → fs ≡ map (sent_of way) m.flights
    → (may : memory.MayConfirm way core k m s) → may.flight.cluster ≡ own → is_in way own ≡ true → Stands own c core (of own m) → core' ≡ memory.landed s core
    → Flies way own (told (confirm_plan k m) (reply.Recorded s.entries) m) m c core' fs (reply.Recorded s.entries)
recorded_answer {way} own k m c core core' fs s reached flights may from pair st left =
    subst (λ (w : ClusterCore). Flies way own (told (confirm_plan k m) (reply.Recorded s.entries) m) m c w fs (reply.Recorded s.entries)) (sym left)
    (subst (λ (w : Cluster). is_in way w ≡ true → Stands w c core (of w m) → Flies way w (told (confirm_plan k m) (reply.Recorded s.entries) m) m c (memory.landed s core) fs (reply.Recorded s.entries)) from
    (λ inside stands. recorded_flies k m c core fs s reached flights may inside stands) pair st)

-- the flight's cluster
pub its_cluster : {way : Route} (own : Cluster) (core : ClusterCore) (k : ℕ) (m : Machine) (s : Sent) (may : memory.MayConfirm way core k m s) → IsFrom own k m → may.flight.cluster ≡ own
its_cluster own core k m s may from = subst (λ (o : Option Flight). IfSome o (λ (g : Flight). g.cluster ≡ own)) may.there from
