-- Each act keeps that a peer has a queue for the server of each commit after its start.
use Rattle.std.proofs.Common.{ℕ, zero, suc, ◌≡◌, ◌==◌, inl, inr, not, true, false, List, [], ◌∷◌, ◌++◌, map, drop, length, find, Some, refl, ap, sym, ◌∙◌, subst, ne_eqb, eqb-true}
use Rattle.std.specs.List.{AllByRecursion}
use Rattle.std.proofs.lemmas.Bool.{cond_both, cases_Bool, and_parts, not_from_false, true≢false}
use Rattle.std.proofs.lemmas.Option.{same_Some}
use Rattle.rep_types.specs.declared.ids.Cluster.{Cluster}
use Rattle.rep_types.specs.declared.ids.Cluster.TheVariants.{A, B, C}
use Rattle.rep_types.specs.declared.state.QueueForms.{QueueForms}
use Rattle.rep_model.specs.Keyed.{replace}
use Rattle.rep_model.specs.State.{Route, of, with, is_server, is_peer, is_queue}
use Rattle.rep_model.specs.Commits.{commit_of}
use Rattle.rep_model.specs.Peers.{is_removed, is_synchronous}
use Rattle.rep_model.specs.LogEvents.{server_queues}
use Rattle.rep_model.specs.PeerEvents.{new_peer, new_queues, other_queues, restarted, restart_queues}
use Rattle.rep_model.specs.declared.machine.Machine.{Machine}
use Rattle.rep_model.specs.declared.machine.Side.{Side}
use Rattle.rep_model.specs.declared.machine.Commit.{Commit}
use Rattle.rep_model.specs.declared.machine.Peer.{Peer}
use Rattle.rep_model.specs.declared.machine.Standing.TheVariants as standing
use Rattle.rep_model.specs.declared.machine.Queue.{Queue}
use Rattle.rep_model.specs.declared.machine.Server.{Server}
use Rattle.rep_model.specs.declared.machine.Pending.{Pending}
use Rattle.rep_model.specs.declared.machine.Flight.{Flight}
use Rattle.rep_model.specs.declared.machine.Ticket.{Ticket}
use Rattle.rep_laws.proofs.Lists.{In, in_left, in_filtered, All_weaker, All_both, All_append, All_found, All_mapped, found_in, all_in}
use Rattle.rep_laws.proofs.Finding.{All_replaced}
use Rattle.rep_laws.proofs.Committed.{numbered}
use Rattle.rep_laws.proofs.Flow.{peer_at}
use Rattle.rep_laws.proofs.SerialPart.{found_number}
use Rattle.rep_laws.proofs.Fronts.{past_all}
use Rattle.rep_laws.proofs.FrontPart.{Different, peer_numbers}
use Rattle.rep_laws.proofs.Numbering.{found_key, replaced_keyed}
use Rattle.rep_laws.proofs.SeatPart.{Rests, Seats, SeatIn, seats_at, served_live, nowhere}
use Rattle.rep_laws.proofs.QueuesPart.{HasQueue, Queued, QueueIn, queued_at, in_or_replaced}
use Rattle.rep_laws.proofs.ActSides.{entries_committed}
use Rattle.rep_laws.proofs.Acts.{Committing, IsDue, Act, LinkStands, TicketsEnd, ServerJoins, ServerStands, ServerDies, RegionsJoin, RegionTurns, EntryPends, PutPends, EntriesCommit, PeerJoins, PeerStands, PeerLeaves, PeersRestart, QueueStands, FormsTurn, FlightJoins, FlightStands}

-- the peer has a queue for the server of each of these commits
abbrev pub Served : List Queue → ℕ → List Commit → Type 0
Served qs p xs = AllByRecursion (λ (x : Commit). HasQueue p x.server qs) xs

abbrev pub Owed : List Commit → List Queue → Peer → Type 0
Owed K qs p = is_removed p.standing ≡ false → Served qs p.number (drop p.start K)

abbrev pub OwedIn : Side → Type 0
OwedIn s = AllByRecursion (Owed s.commits s.queues) s.peers

pub record AllOwed (m : Machine) : Type 0 where
  pub a : OwedIn m.a
  pub b : OwedIn m.b
  pub c : OwedIn m.c

pub owed_at : (c : Cluster) (m : Machine) → AllOwed m → OwedIn (of c m)
owed_at A m k = k.a
owed_at B m k = k.b
owed_at C m k = k.c

owed_with : (c : Cluster) (s : Side) (m : Machine) → OwedIn s → AllOwed m → AllOwed (with c s m)
owed_with A s m o k = record { a = o; b = k.b; c = k.c }
owed_with B s m o k = record { a = k.a; b = o; c = k.c }
owed_with C s m o k = record { a = k.a; b = k.b; c = o }

owed_tickets : (m : Machine) (ts : List Ticket) → AllOwed m → AllOwed (record m { tickets = ts })
owed_tickets m ts k = record { a = k.a; b = k.b; c = k.c }

owed_flights : (m : Machine) (fs : List Flight) → AllOwed m → AllOwed (record m { flights = fs })
owed_flights m fs k = record { a = k.a; b = k.b; c = k.c }

-- queues that keep what a peer has
queues_owed : (K : List Commit) (qs more : List Queue) (p : Peer) → ((s : ℕ) → HasQueue p.number s qs → HasQueue p.number s more) → Owed K qs p → Owed K more p
queues_owed K qs more p keep o stands = All_weaker (λ x h. keep x.server h) (drop p.start K) (o stands)

joined_queue : (p s : ℕ) (qs more : List Queue) → HasQueue p s qs → HasQueue p s (qs ++ more)
joined_queue p s qs more h = (h.0, in_left h.0 qs more h.1, h.2, h.3)

-- entries are committed: their server isn't sealed, so the peer has a queue for it

All_dropped_more : (P : Commit → Type 0) (n : ℕ) (xs ys : List Commit) → AllByRecursion P (drop n xs) → AllByRecursion P ys → AllByRecursion P (drop n (xs ++ ys))
All_dropped_more P n [] ys a b = later n ys b
  where
    later : (k : ℕ) (zs : List Commit) → AllByRecursion P zs → AllByRecursion P (drop k zs)
    later zero zs q = q
    later (suc k) [] q = tt
    later (suc k) (z ∷ zs) q = later k zs q.1
All_dropped_more P zero (x ∷ xs) ys a b = (a.0, All_dropped_more P zero xs ys a.1 b)
All_dropped_more P (suc n) (x ∷ xs) ys a b = All_dropped_more P n xs ys a b

numbered_server : (P : ℕ → Type 0) (s l : ℕ) (K : List Commit) (xs : List Pending) → (AllByRecursion (λ (x : Pending). P s) xs) → AllByRecursion (λ (y : Commit). P y.server) (numbered s l K xs)
numbered_server P s l K [] a = tt
numbered_server P s l K (x ∷ xs) a = (a.0, numbered_server P s l (K ++ commit_of s l K x ∷ []) xs a.1)

-- nothing is due at a sealed server
due_unsealed : (c : Cluster) (m : Machine) (v : Server) (x : Pending) → Rests v → SeatIn (of c m) → IsDue c m v x → v.sealed ≡ true → ⊥
due_unsealed c m v x rests o due sealed = elim due [
  | inl i ↦ nowhere x v.pending i (rests sealed).1
  | inr s ↦ true≢false (sym (served_live c m v x.region o s.0) ∙ (rests sealed).0)
]

commit_owed : (c : Cluster) (m : Machine) (v new : Server) (xs : List Pending) (ts : List Ticket) → Committing c m v new xs ts → SeatIn (of c m) → QueueIn (of c m) → OwedIn (of c m)
    → AllByRecursion (Owed ((of c m).commits ++ numbered v.number v.log (of c m).commits xs) (of c m).queues) (of c m).peers
commit_owed c m v new xs ts k o q a =
    let K : List Commit = (of c m).commits in
    let there : In v (of c m).servers = found_in (is_server v.number) (of c m).servers v k.found in
    let rests : Rests v = All_found Rests (is_server v.number) (of c m).servers v k.found o.resting in
    All_both (λ p i owed stands. All_dropped_more (λ (x : Commit). HasQueue p.number x.server (of c m).queues) p.start K (numbered v.number v.log K xs) (owed stands)
    (numbered_server (λ s. HasQueue p.number s (of c m).queues) v.number v.log K xs (All_weaker (λ x due. elim (cases_Bool v.sealed) [
      | inl t ↦ absurd (due_unsealed c m v x rests o due t)
      | inr f ↦ q.whole p v i there stands f
    ]) xs k.due))) (of c m).peers (all_in (of c m).peers) a

-- from the end of the commits on nothing is owed
owed_at_end : (K : List Commit) (qs : List Queue) (p : Peer) → p.start ≡ length K → Owed K qs p
owed_at_end K qs p e stands = subst (Served qs p.number) (sym (ap (λ n. drop n K) e ∙ past_all K)) tt

-- a peer gives way to one that starts where it did
stand_owed : (K : List Commit) (qs : List Queue) (peers : List Peer) (x new : Peer) → peer_at new.number peers ≡ Some x → is_removed new.standing ≡ is_removed x.standing → new.start ≡ x.start → AllByRecursion (Owed K qs) peers
    → AllByRecursion (Owed K qs) (replace (is_peer new.number) new peers)
stand_owed K qs peers x new found same start a =
    let before : Owed K qs x = All_found (Owed K qs) (is_peer new.number) peers x found a in
    let number : x.number ≡ new.number = found_number new.number peers x found in
    All_replaced (Owed K qs) (is_peer new.number) new peers (λ stands. subst (λ n. Served qs n (drop new.start K)) number (subst (λ k. Served qs x.number (drop k K)) (sym start) (before (sym same ∙ stands)))) a

-- a peer is removed, and its queues go

other_queue : (p n s : ℕ) (qs : List Queue) → (n ≡ p → ⊥) → HasQueue n s qs → HasQueue n s (other_queues p qs)
other_queue p n s qs apart h = (h.0, in_filtered (λ (q : Queue). not (q.peer == p)) h.0 qs (not_from_false (h.0.peer == p) (ne_eqb h.0.peer p (λ e. apart (sym h.2 ∙ e)))) h.1, h.2, h.3)

leave_owed : (K : List Commit) (qs : List Queue) (peers : List Peer) (x : Peer) → Different (peer_numbers peers) → AllByRecursion (Owed K qs) peers
    → AllByRecursion (Owed K (other_queues x.number qs)) (replace (is_peer x.number) (record x { standing = standing.Removed }) peers)
leave_owed K qs peers x d a = replaced_keyed (λ (p : Peer). p.number) (Owed K qs) (Owed K (other_queues x.number qs)) (record x { standing = standing.Removed }) peers d
    (λ p i apart owed. queues_owed K qs (other_queues x.number qs) p (λ s h. other_queue x.number p.number s qs apart h) owed)
    (λ stands. absurd (true≢false stands)) a

-- synchronous peers start again, at the end of the commits

restart_keeps : (F : QueueForms) (servers : List Server) (n s : ℕ) (ps : List Peer) (qs : List Queue) → AllByRecursion (λ (p : Peer). is_synchronous p.kind ≡ true → n ≡ p.number → ⊥) ps → HasQueue n s qs → HasQueue n s (restart_queues F servers ps qs)
restart_keeps F servers n s [] qs apart h = h
restart_keeps F servers n s (p ∷ ps) qs apart h = cond_both (is_synchronous p.kind) (restart_queues F servers ps (other_queues p.number qs ++ new_queues F p.number servers)) (restart_queues F servers ps qs) (HasQueue n s)
    (λ t. restart_keeps F servers n s ps _ apart.1 (joined_queue n s (other_queues p.number qs) (new_queues F p.number servers) (other_queue p.number n s qs (apart.0 t) h)))
    (λ _. restart_keeps F servers n s ps qs apart.1 h)

restart_owed : (F : QueueForms) (K : List Commit) (servers : List Server) (peers : List Peer) (qs : List Queue) → Different (peer_numbers peers) → AllByRecursion (Owed K qs) peers → AllByRecursion (Owed K (restart_queues F servers peers qs)) (map (restarted (length K)) peers)
restart_owed F K servers peers qs d a =
    let new : List Queue = restart_queues F servers peers qs in
    All_mapped (Owed K new) (restarted (length K)) peers (All_both (λ p i owed. cond_both (is_synchronous p.kind) (record p { start = length K; serial_start = length K }) p (Owed K new)
    (λ _. owed_at_end K new (record p { start = length K; serial_start = length K }) refl)
    (λ plain. queues_owed K qs new p (λ s h. restart_keeps F servers p.number s peers qs (All_weaker (λ r j sync e. (
    let mine : find (is_peer r.number) peers ≡ Some r = found_key (λ (z : Peer). z.number) r peers d j in
    let its : find (is_peer p.number) peers ≡ Some p = found_key (λ (z : Peer). z.number) p peers d i in
    let one : p ≡ r = same_Some p r (sym its ∙ (ap (λ n. find (is_peer n) peers) e ∙ mine)) in
    true≢false (sym sync ∙ (ap (λ (z : Peer). is_synchronous z.kind) (sym one) ∙ plain))
    )) peers (all_in peers)) h) owed)) peers (all_in peers) a)

-- a queue gives way to one of its key
replaced_queue : (new : Queue) (p s : ℕ) (qs : List Queue) → HasQueue p s qs → HasQueue p s (replace (is_queue new.peer new.server) new qs)
replaced_queue new p s qs h = elim (in_or_replaced (is_queue new.peer new.server) new h.0 qs h.1) [
  | inl k ↦ (h.0, k, h.2, h.3)
  | inr k ↦ (let t = and_parts _ _ k.0 in (new, k.1, sym (eqb-true h.0.peer new.peer t.0) ∙ h.2, sym (eqb-true h.0.server new.server t.1) ∙ h.3))
]

-- more queues come
more_owed : (K : List Commit) (qs more : List Queue) (peers : List Peer) → AllByRecursion (Owed K qs) peers → AllByRecursion (Owed K (qs ++ more)) peers
more_owed K qs more peers a = All_weaker (λ p owed. queues_owed K qs (qs ++ more) p (λ s h. joined_queue p.number s qs more h) owed) peers a

pub act_owed : {way : Route} (m new : Machine) → Act way m new → Seats m → Queued m → AllOwed m → AllOwed new
act_owed m new (LinkStands c pair ws link items) seats queued k = owed_with c _ m (owed_at c m k) k
act_owed m new (TicketsEnd c test to) seats queued k = owed_tickets m _ k
act_owed m new (ServerJoins c pair s none) seats queued k = owed_with c _ m (more_owed (of c m).commits (of c m).queues (server_queues (of c m).forms s (of c m).peers) (of c m).peers (owed_at c m k)) k
act_owed m new (ServerStands c pair v whole lowest found swept) seats queued k = owed_with c _ m (owed_at c m k) k
act_owed m new (ServerDies c pair v found live) seats queued k = owed_tickets _ _ (owed_with c _ m (owed_at c m k) k)
act_owed m new (RegionsJoin c pair tables hs behind off more gone fresh) seats queued k = owed_with c _ m (owed_at c m k) k
act_owed m new (RegionTurns c pair h to found same turns keeps) seats queued k = owed_with c _ m (owed_at c m k) k
act_owed m new (EntryPends c pair v x whole served room none titled) seats queued k = owed_with c _ m (owed_at c m k) k
act_owed m new (PutPends c pair v x served room ticket titled) seats queued k = owed_tickets _ _ (owed_with c _ m (owed_at c m k) k)
act_owed m new (EntriesCommit c pair v to xs ts commits) seats queued k =
    subst AllOwed (sym (entries_committed c v.number v.log to xs ts m)) (owed_tickets _ _ (owed_with c _ m (commit_owed c m v to xs ts commits (seats_at c m seats) (queued_at c m queued) (owed_at c m k)) k))
act_owed m new (PeerJoins c pair p kind tables none there) seats queued k =
    let fresh : List Queue = new_queues (of c m).forms p (of c m).servers in
    let x : Peer = new_peer p kind tables (length (of c m).commits) in
    owed_with c _ m (All_append _ (of c m).peers (x ∷ []) (more_owed (of c m).commits (of c m).queues fresh (of c m).peers (owed_at c m k)) (owed_at_end (of c m).commits ((of c m).queues ++ fresh) x refl, tt)) k
act_owed m new (PeerStands c pair x to found same sync covers wide) seats queued k = owed_with c _ m (stand_owed (of c m).commits (of c m).queues (of c m).peers x to found same wide.start (owed_at c m k)) k
act_owed m new (PeerLeaves c pair x found plain) seats queued k = owed_with c _ m (leave_owed (of c m).commits (of c m).queues (of c m).peers x (queued_at c m queued).peers_differ (owed_at c m k)) k
act_owed m new (PeersRestart c pair) seats queued k = owed_with c _ m (restart_owed (of c m).forms (of c m).commits (of c m).servers (of c m).peers (of c m).queues (queued_at c m queued).peers_differ (owed_at c m k)) k
act_owed m new (QueueStands c pair q to found) seats queued k =
    owed_with c _ m (All_weaker (λ p owed. queues_owed (of c m).commits (of c m).queues _ p (λ s h. replaced_queue to p.number s (of c m).queues h) owed) (of c m).peers (owed_at c m k)) k
act_owed m new (FormsTurn c pair forms) seats queued k = owed_with c _ m (owed_at c m k) k
act_owed m new (FlightJoins f number) seats queued k = owed_flights m _ k
act_owed m new (FlightStands j f to found number) seats queued k = owed_flights m _ k
