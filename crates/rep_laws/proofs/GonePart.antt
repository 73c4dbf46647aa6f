-- Each act keeps that the last commit of a Gone region is a close marker.
use Rattle.std.proofs.Common.{ℕ, ◌≡◌, ◌==◌, ◌∷◌, inl, inr, Bool, true, false, if◌then◌else◌, List, [], ◌++◌, map, Some, refl, ap, sym, ◌∙◌, subst, ne_eqb}
use Rattle.std.specs.List.{AllByRecursion}
use Rattle.std.proofs.lemmas.Bool.{cond_both, cond-false, false≢true, true≢false}
use Rattle.std.proofs.lemmas.Option.{same_Some}
use Rattle.rep_types.specs.declared.ids.Cluster.{Cluster}
use Rattle.rep_types.specs.declared.ids.Cluster.TheVariants.{A, B, C}
use Rattle.rep_types.specs.declared.state.PlaceOf.{PlaceOf}
use Rattle.rep_types.specs.declared.state.PlaceOf.TheVariants as place
use Rattle.rep_model.specs.Keyed.{replace}
use Rattle.rep_model.specs.State.{Route, of, with, is_region, region_of}
use Rattle.rep_model.specs.Places.{after_death, is_gone, is_close, closes_last}
use Rattle.rep_model.specs.declared.machine.Machine.{Machine}
use Rattle.rep_model.specs.declared.machine.Side.{Side}
use Rattle.rep_model.specs.declared.machine.Commit.{Commit}
use Rattle.rep_model.specs.declared.machine.Hosted.{Hosted}
use Rattle.rep_model.specs.declared.machine.Region.{Region}
use Rattle.rep_model.specs.declared.machine.Flight.{Flight}
use Rattle.rep_model.specs.declared.machine.Ticket.{Ticket}
use Rattle.rep_model.specs.declared.machine.Server.{Server}
use Rattle.rep_model.specs.declared.machine.Pending.{Pending}
use Rattle.rep_laws.proofs.Lists.{In, All_weaker, All_both, All_append, All_found, All_mapped, all_in}
use Rattle.rep_laws.proofs.Finding.{All_replaced}
use Rattle.rep_laws.proofs.Committed.{numbered}
use Rattle.rep_laws.proofs.SeatPart.{Seats, SeatIn, seats_at, region_found, numbered_regions, due_placed}
use Rattle.rep_laws.proofs.ActSides.{entries_committed}
use Rattle.rep_laws.proofs.Acts.{is_at, Committing, Keeps, Act, LinkStands, TicketsEnd, ServerJoins, ServerStands, ServerDies, RegionsJoin, RegionTurns, EntryPends, PutPends, EntriesCommit, PeerJoins, PeerStands, PeerLeaves, PeersRestart, QueueStands, FormsTurn, FlightJoins, FlightStands}

-- a Gone region's last commit is a close marker
abbrev pub ClosedAt : List Commit → Hosted → Type 0
ClosedAt K h = is_gone h.place ≡ true → closes_last h.region.number K false ≡ true

abbrev pub GoneIn : Side → Type 0
GoneIn s = AllByRecursion (ClosedAt s.commits) s.regions

pub record AllClosed (m : Machine) : Type 0 where
  pub a : GoneIn m.a
  pub b : GoneIn m.b
  pub c : GoneIn m.c

pub gone_at : (c : Cluster) (m : Machine) → AllClosed m → GoneIn (of c m)
gone_at A m k = k.a
gone_at B m k = k.b
gone_at C m k = k.c

gone_with : (c : Cluster) (s : Side) (m : Machine) → GoneIn s → AllClosed m → AllClosed (with c s m)
gone_with A s m o k = record { a = o; b = k.b; c = k.c }
gone_with B s m o k = record { a = k.a; b = o; c = k.c }
gone_with C s m o k = record { a = k.a; b = k.b; c = o }

gone_tickets : (m : Machine) (ts : List Ticket) → AllClosed m → AllClosed (record m { tickets = ts })
gone_tickets m ts k = record { a = k.a; b = k.b; c = k.c }

gone_flights : (m : Machine) (fs : List Flight) → AllClosed m → AllClosed (record m { flights = fs })
gone_flights m fs k = record { a = k.a; b = k.b; c = k.c }

-- which commit of a region is its last

closes_behind : (r : ℕ) (xs ys : List Commit) (found : Bool) → closes_last r (xs ++ ys) found ≡ closes_last r ys (closes_last r xs found)
closes_behind r [] ys found = refl
closes_behind r (x ∷ xs) ys found = closes_behind r xs ys (if x.region.number == r then is_close x.kind else found)

-- commits of other regions change nothing
closes_aside : (r : ℕ) (xs : List Commit) (found : Bool) → AllByRecursion (λ (x : Commit). x.region.number ≡ r → ⊥) xs → closes_last r xs found ≡ found
closes_aside r [] found a = refl
closes_aside r (x ∷ xs) found a = ap (closes_last r xs) (cond-false (x.region.number == r) (is_close x.kind) found (ne_eqb x.region.number r a.0)) ∙ closes_aside r xs found a.1

-- a place at a server isn't Gone
at_stands : (s : ℕ) (p : PlaceOf) → is_at s p ≡ true → is_gone p ≡ false
at_stands s place.Off h = refl
at_stands s (place.Opening t) h = refl
at_stands s (place.On t) h = refl
at_stands s (place.Closing t) h = refl
at_stands s (place.Lost t) h = refl
at_stands s place.Gone h = absurd (false≢true h)

-- what is due is of no Gone region
due_apart : (c : Cluster) (m : Machine) (v new : Server) (xs : List Pending) (ts : List Ticket) → Committing c m v new xs ts → SeatIn (of c m) → (h : Hosted) → In h (of c m).regions → is_gone h.place ≡ true
    → AllByRecursion (λ (x : Pending). x.region.number ≡ h.region.number → ⊥) xs
due_apart c m v new xs ts k o h i gone = All_weaker (λ x due same. (
    let p = due_placed c m v x k.found o due in
    let found : region_of c x.region.number m ≡ Some h = ap (λ n. region_of c n m) same ∙ region_found h (of c m).regions o.numbered i in
    let one : p.0 ≡ h = same_Some p.0 h (sym p.1 ∙ found) in
    true≢false (sym gone ∙ (ap (λ (g : Hosted). is_gone g.place) (sym one) ∙ at_stands v.number p.0.place p.3))
    )) xs k.due

commit_gone : (c : Cluster) (m : Machine) (v new : Server) (xs : List Pending) (ts : List Ticket) → Committing c m v new xs ts → SeatIn (of c m) → GoneIn (of c m) → AllByRecursion (ClosedAt ((of c m).commits ++ numbered v.number v.log (of c m).commits xs)) (of c m).regions
commit_gone c m v new xs ts k o a =
    let K : List Commit = (of c m).commits in
    let more : List Commit = numbered v.number v.log K xs in
    All_both (λ h i closed gone. (
    let apart : AllByRecursion (λ (y : Commit). y.region.number ≡ h.region.number → ⊥) more = numbered_regions (λ (r : Region). r.number ≡ h.region.number → ⊥) v.number v.log K xs (due_apart c m v new xs ts k o h i gone) in
    closes_behind h.region.number K more false ∙ (closes_aside h.region.number more (closes_last h.region.number K false) apart ∙ closed gone)
    )) (of c m).regions (all_in (of c m).regions) a

turn_closed : (c : Cluster) (m : Machine) (h new : Hosted) → region_of c new.region.number m ≡ Some h → new.region ≡ h.region → Keeps c m h new → GoneIn (of c m) → AllByRecursion (ClosedAt (of c m).commits) (replace (is_region new.region.number) new (of c m).regions)
turn_closed c m h new there same keeps a =
    let K : List Commit = (of c m).commits in
    let before : ClosedAt K h = All_found (ClosedAt K) (is_region new.region.number) (of c m).regions h there a in
    let named : closes_last new.region.number K false ≡ closes_last h.region.number K false = ap (λ (r : Region). closes_last r.number K false) same in
    All_replaced (ClosedAt K) (is_region new.region.number) new (of c m).regions (λ gone. named ∙ elim (keeps.retires gone) [ inl g ↦ before g | inr closed ↦ closed ]) a

-- a region isn't Gone by a server's death
death_stays : (s : ℕ) (p : PlaceOf) → is_gone (after_death s p) ≡ is_gone p
death_stays s place.Off = refl
death_stays s (place.Opening t) = cond_both (s == t) (place.Lost t) (place.Opening t) (λ (q : PlaceOf). is_gone q ≡ false) (λ _. refl) (λ _. refl)
death_stays s (place.On t) = cond_both (s == t) (place.Lost t) (place.On t) (λ (q : PlaceOf). is_gone q ≡ false) (λ _. refl) (λ _. refl)
death_stays s (place.Closing t) = cond_both (s == t) (place.Lost t) (place.Closing t) (λ (q : PlaceOf). is_gone q ≡ false) (λ _. refl) (λ _. refl)
death_stays s (place.Lost t) = refl
death_stays s place.Gone = refl

die_closed : (K : List Commit) (s : ℕ) (regions : List Hosted) → AllByRecursion (ClosedAt K) regions → AllByRecursion (ClosedAt K) (map (λ (h : Hosted). record h { place = after_death s h.place }) regions)
die_closed K s regions a = All_mapped (ClosedAt K) (λ (h : Hosted). record h { place = after_death s h.place }) regions (All_weaker (λ h closed gone. closed (sym (death_stays s h.place) ∙ gone)) regions a)

join_closed : (K : List Commit) (regions hs : List Hosted) → AllByRecursion (λ (h : Hosted). h.place ≡ place.Off) hs → AllByRecursion (ClosedAt K) regions → AllByRecursion (ClosedAt K) (regions ++ hs)
join_closed K regions hs off a = All_append (ClosedAt K) regions hs a (All_weaker (λ h e gone. absurd (false≢true (ap is_gone (sym e) ∙ gone))) hs off)

pub act_closed : {way : Route} (m new : Machine) → Act way m new → Seats m → AllClosed m → AllClosed new
act_closed m new (LinkStands c pair ws link items) seats k = gone_with c _ m (gone_at c m k) k
act_closed m new (TicketsEnd c test to) seats k = gone_tickets m _ k
act_closed m new (ServerJoins c pair s none) seats k = gone_with c _ m (gone_at c m k) k
act_closed m new (ServerStands c pair v whole lowest found swept) seats k = gone_with c _ m (gone_at c m k) k
act_closed m new (ServerDies c pair v found live) seats k = gone_tickets _ _ (gone_with c _ m (die_closed (of c m).commits v.number (of c m).regions (gone_at c m k)) k)
act_closed m new (RegionsJoin c pair tables hs behind off more gone fresh) seats k = gone_with c _ m (join_closed (of c m).commits (of c m).regions hs off (gone_at c m k)) k
act_closed m new (RegionTurns c pair h to found same turns keeps) seats k = gone_with c _ m (turn_closed c m h to found same keeps (gone_at c m k)) k
act_closed m new (EntryPends c pair v x whole served room none titled) seats k = gone_with c _ m (gone_at c m k) k
act_closed m new (PutPends c pair v x served room ticket titled) seats k = gone_tickets _ _ (gone_with c _ m (gone_at c m k) k)
act_closed m new (EntriesCommit c pair v to xs ts commits) seats k =
    subst AllClosed (sym (entries_committed c v.number v.log to xs ts m)) (gone_tickets _ _ (gone_with c _ m (commit_gone c m v to xs ts commits (seats_at c m seats) (gone_at c m k)) k))
act_closed m new (PeerJoins c pair p kind tables none there) seats k = gone_with c _ m (gone_at c m k) k
act_closed m new (PeerStands c pair x to found same sync covers wide) seats k = gone_with c _ m (gone_at c m k) k
act_closed m new (PeerLeaves c pair x found plain) seats k = gone_with c _ m (gone_at c m k) k
act_closed m new (PeersRestart c pair) seats k = gone_with c _ m (gone_at c m k) k
act_closed m new (QueueStands c pair q to found) seats k = gone_with c _ m (gone_at c m k) k
act_closed m new (FormsTurn c pair forms) seats k = gone_with c _ m (gone_at c m k) k
act_closed m new (FlightJoins f number) seats k = gone_flights m _ k
act_closed m new (FlightStands j f to found number) seats k = gone_flights m _ k
