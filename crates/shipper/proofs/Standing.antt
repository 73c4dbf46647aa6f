-- Flights that stay, and the outstanding ones.
use Rattle.std.proofs.Common.{◌≡◌, ℕ, ◌+◌, ◌-◌, ◌≤◌, ◌==◌, ◌&&◌, zero, suc, not, Bool, true, false, cond, List, [], ◌∷◌, ◌++◌, length, All, Option, Some, None, IfSome, slice_get, find, refl, ap, sym, ◌∙◌, subst, arith}
use Rattle.std.specs.Option.{option_map}
use Rattle.std.specs.Prelude.{nat_le}
use Rattle.std.proofs.lemmas.Bool.{true≢false, and_parts, and_from, eqb-true, eq-eqb, le-leb}
use Rattle.std.proofs.lemmas.Option.{none-some}
use Rattle.std.proofs.lemmas.List.{length-append}
use Rattle.std.proofs.lemmas.List.Elements.{All-weaker, All-push, All-head, All-tail, All-filter}
use Rattle.rep_types.specs.declared.ids.Cluster.{Cluster}
use Rattle.rep_types.specs.declared.ids.Cluster.TheVariants.{A, B, C}
use Rattle.wire_batch.specs.declared.batch.Batch.{Batch}
use Rattle.shipper.specs.declared.queue.Outstanding.{Outstanding}
use Rattle.shipper.specs.declared.queue.QueueId.{QueueId}
use Rattle.shipper.specs.Flights.{FlightsValue, next_flight, numbered, with_flight, flight_of, queue_at, ended_of, ended, IsOut, IsFlights}
use Rattle.shipper.specs.Queues.{same_cluster, same_queue, queue_of, is_of, outstanding_of, without}

-- ---- queues

cluster-true : (c d : Cluster) → same_cluster c d ≡ true → c ≡ d
cluster-true A A e = refl
cluster-true B B e = refl
cluster-true C C e = refl
cluster-true A B e = absurd (true≢false (sym e))
cluster-true A C e = absurd (true≢false (sym e))
cluster-true B A e = absurd (true≢false (sym e))
cluster-true B C e = absurd (true≢false (sym e))
cluster-true C A e = absurd (true≢false (sym e))
cluster-true C B e = absurd (true≢false (sym e))

cluster-itself : (c : Cluster) → same_cluster c c ≡ true
cluster-itself A = refl
cluster-itself B = refl
cluster-itself C = refl

queue-true : (p q : QueueId) → same_queue p q ≡ true → p ≡ q
queue-true p q e =
    let parts = and_parts (same_cluster p.cluster q.cluster && p.peer == q.peer) (p.server == q.server) e in
    let front = and_parts (same_cluster p.cluster q.cluster) (p.peer == q.peer) parts.0 in
    λ i. record { cluster = cluster-true p.cluster q.cluster front.0 i; peer = eqb-true p.peer q.peer front.1 i; server = eqb-true p.server q.server parts.1 i }

queue-itself : (q : QueueId) → same_queue q q ≡ true
queue-itself q = and_from (same_cluster q.cluster q.cluster && q.peer == q.peer) (q.server == q.server)
    (and_from (same_cluster q.cluster q.cluster) (q.peer == q.peer) (cluster-itself q.cluster) (eq-eqb q.peer q.peer refl)) (eq-eqb q.server q.server refl)

-- ---- what was sent

get-kept : {X : Type 0} (xs ys : List X) (k : ℕ) (x : X) → slice_get xs k ≡ Some x → slice_get (xs ++ ys) k ≡ Some x
get-kept [] ys k x e = absurd (none-some x e)
get-kept (y ∷ xs) ys zero x e = e
get-kept (y ∷ xs) ys (suc k) x e = get-kept xs ys k x e

get-last : {X : Type 0} (xs : List X) (x : X) → slice_get (xs ++ x ∷ []) (length xs) ≡ Some x
get-last [] x = refl
get-last (y ∷ xs) x = get-last xs x

pub flight-stays : (n : ℕ) (bs : List Batch) (b sent : Batch) → flight_of n bs ≡ Some sent → flight_of n (bs ++ b ∷ []) ≡ Some sent
flight-stays n bs b sent = at (nat_le 1 n)
  where
    at : (t : Bool) → cond t (slice_get bs (n - 1)) None ≡ Some sent → cond t (slice_get (bs ++ b ∷ []) (n - 1)) None ≡ Some sent
    at true e = get-kept bs (b ∷ []) (n - 1) sent e
    at false e = absurd (none-some sent e)

pub flight-last : (bs : List Batch) (b : Batch) → flight_of (length bs + 1) (bs ++ b ∷ []) ≡ Some b
flight-last bs b =
    let least : 1 ≤ length bs + 1 = omega arith in
    let at : (length bs + 1) - 1 ≡ length bs = omega arith in
    ap (λ (t : Bool). cond t (slice_get (bs ++ b ∷ []) ((length bs + 1) - 1)) None) (le-leb 1 (length bs + 1) least)
    ∙ (ap (slice_get (bs ++ b ∷ [])) at ∙ get-last bs b)

mapped : (o : Option Batch) (q : QueueId) → option_map queue_of o ≡ Some q → (b : Batch) × (o ≡ Some b)
mapped None q e = absurd (none-some q e)
mapped (Some b) q e = (b, refl)

queue-stays : (n : ℕ) (bs : List Batch) (b : Batch) (q : QueueId) → queue_at n bs ≡ Some q → queue_at n (bs ++ b ∷ []) ≡ Some q
queue-stays n bs b q e =
    let sent = mapped (flight_of n bs) q e in
    ap (option_map queue_of) (flight-stays n bs b sent.0 sent.1) ∙ (sym (ap (option_map queue_of) sent.1) ∙ e)

-- ---- the outstanding ones

pub known-out : (q : QueueId) (bs : List Batch) (os : List Outstanding) → All (IsOut bs) os → IfSome (outstanding_of q os) (λ n. queue_at n bs ≡ Some q)
known-out q bs [] all = tt
known-out q bs (o ∷ os) all = at (known-out q bs os (All-tail (IsOut bs) o os all)) (same_queue q o.queue) refl
  where
    at : IfSome (outstanding_of q os) (λ n. queue_at n bs ≡ Some q) → (t : Bool) → same_queue q o.queue ≡ t → IfSome (option_map (λ (x : Outstanding). x.flight) (cond t (Some o) (find (is_of q) os))) (λ n. queue_at n bs ≡ Some q)
    at rest true e = All-head (IsOut bs) o os all ∙ ap Some (sym (queue-true q o.queue e))
    at rest false e = rest

-- ---- what changes

sent-flights : (b : Batch) (f : FlightsValue) → IsFlights f → IsFlights (with_flight b f)
sent-flights b f is = record {
  marks = length-append f.delivered (false ∷ []) ∙ (ap (λ n. n + 1) is.marks ∙ sym (length-append f.batches (numbered (next_flight f) b ∷ [])));
  known = All-push (IsOut (f.batches ++ numbered (next_flight f) b ∷ [])) f.outstanding (record { queue = queue_of b; flight = next_flight f })
      (All-weaker (IsOut f.batches) (IsOut (f.batches ++ numbered (next_flight f) b ∷ [])) (λ (o : Outstanding) out. queue-stays o.flight f.batches (numbered (next_flight f) b) o.queue out) f.outstanding is.known)
      (ap (option_map queue_of) (flight-last f.batches (numbered (next_flight f) b)));
}

-- the same of lists that are those
pub sent-lists : (b : Batch) (f : FlightsValue) (bs : List Batch) (ds : List Bool) (os : List Outstanding) → IsFlights f → bs ≡ (with_flight b f).batches → ds ≡ (with_flight b f).delivered
    → os ≡ (with_flight b f).outstanding → IsFlights (record { batches = bs; delivered = ds; outstanding = os })
sent-lists b f bs ds os is e h g =
    subst IsFlights (λ i. record { batches = sym e i; delivered = sym h i; outstanding = sym g i }) (sent-flights b f is)

pub ended-flights : (q : QueueId) (f : FlightsValue) → IsFlights f → IsFlights (record f { outstanding = without q f.outstanding })
ended-flights q f is = record { marks = is.marks; known = All-filter (λ (o : Outstanding). not (is_of q o)) (IsOut f.batches) f.outstanding is.known }

-- ---- one flight a queue

pub begins : (q : QueueId) (os : List Outstanding) (n : ℕ) → outstanding_of q os ≡ None → outstanding_of q (os ++ record { queue = q; flight = n } ∷ []) ≡ Some n
begins q [] n = λ e. ap (λ (t : Bool). option_map (λ (x : Outstanding). x.flight) (cond t (Some (record { queue = q; flight = n })) None)) (queue-itself q)
begins q (o ∷ os) n = at (begins q os n) (same_queue q o.queue)
  where
    at : (outstanding_of q os ≡ None → outstanding_of q (os ++ record { queue = q; flight = n } ∷ []) ≡ Some n) → (t : Bool) → option_map (λ (x : Outstanding). x.flight) (cond t (Some o) (find (is_of q) os)) ≡ None
        → option_map (λ (x : Outstanding). x.flight) (cond t (Some o) (find (is_of q) (os ++ record { queue = q; flight = n } ∷ []))) ≡ Some n
    at rest true e = absurd (none-some o.flight (sym e))
    at rest false e = rest e

-- what follows one more outstanding flight
behind : (o : Outstanding) (t : Bool) (x y : Option Outstanding) → option_map (λ (z : Outstanding). z.flight) x ≡ option_map (λ (z : Outstanding). z.flight) y
    → option_map (λ (z : Outstanding). z.flight) (cond t (Some o) x) ≡ option_map (λ (z : Outstanding). z.flight) (cond t (Some o) y)
behind o true x y e = refl
behind o false x y e = e

pub beside : (q r : QueueId) (os : List Outstanding) (n : ℕ) → same_queue r q ≡ false → outstanding_of r (os ++ record { queue = q; flight = n } ∷ []) ≡ outstanding_of r os
beside q r [] n e = ap (λ (t : Bool). option_map (λ (x : Outstanding). x.flight) (cond t (Some (record { queue = q; flight = n })) None)) e
beside q r (o ∷ os) n e = behind o (same_queue r o.queue) (find (is_of r) (os ++ record { queue = q; flight = n } ∷ [])) (find (is_of r) os) (beside q r os n e)

none-left : (q : QueueId) (os : List Outstanding) → outstanding_of q (without q os) ≡ None
none-left q [] = refl
none-left q (o ∷ os) = at (none-left q os) (same_queue q o.queue) refl
  where
    at : outstanding_of q (without q os) ≡ None → (t : Bool) → same_queue q o.queue ≡ t → outstanding_of q (cond (not t) (o ∷ without q os) (without q os)) ≡ None
    at rest true e = rest
    at rest false e = ap (λ (t : Bool). option_map (λ (x : Outstanding). x.flight) (cond t (Some o) (find (is_of q) (without q os)))) e ∙ rest

-- what is of this queue is of no other
apart : (q r : QueueId) (o : Outstanding) → same_queue r q ≡ false → same_queue q o.queue ≡ true → same_queue r o.queue ≡ false
apart q r o e h = subst (λ (s : QueueId). same_queue r s ≡ false) (queue-true q o.queue h) e

others-left : (q r : QueueId) (os : List Outstanding) → same_queue r q ≡ false → outstanding_of r (without q os) ≡ outstanding_of r os
others-left q r [] e = refl
others-left q r (o ∷ os) e = at (others-left q r os e) (same_queue q o.queue) refl
  where
    at : outstanding_of r (without q os) ≡ outstanding_of r os → (t : Bool) → same_queue q o.queue ≡ t → outstanding_of r (cond (not t) (o ∷ without q os) (without q os)) ≡ outstanding_of r (o ∷ os)
    at rest true h = rest ∙ sym (ap (λ (t : Bool). option_map (λ (x : Outstanding). x.flight) (cond t (Some o) (find (is_of r) os))) (apart q r o e h))
    at rest false h = behind o (same_queue r o.queue) (find (is_of r) (without q os)) (find (is_of r) os) rest

pub ends : (n : ℕ) (f : FlightsValue) (q : QueueId) → queue_at n f.batches ≡ Some q → outstanding_of q (ended n f).outstanding ≡ None
ends n f q e = ap (λ (o : Option QueueId). outstanding_of q (ended_of o f).outstanding) e ∙ none-left q f.outstanding

pub others : (n : ℕ) (f : FlightsValue) (q r : QueueId) → queue_at n f.batches ≡ Some q → same_queue r q ≡ false → outstanding_of r (ended n f).outstanding ≡ outstanding_of r f.outstanding
others n f q r e other = ap (λ (o : Option QueueId). outstanding_of r (ended_of o f).outstanding) e ∙ others-left q r f.outstanding other
