-- Each act keeps that regions begin below their ends, and have their rows from their parents.
use Rattle.std.proofs.Common.{ℕ, ◌≡◌, inl, inr, List, ◌++◌, map, find, Some, option_map, refl, ap, sym, ◌∙◌, subst}
use Rattle.std.specs.List.{AllByRecursion}
use Rattle.rep_types.specs.declared.ids.Cluster.{Cluster}
use Rattle.rep_types.specs.declared.ids.Cluster.TheVariants.{A, B, C}
use Rattle.rep_model.specs.Keyed.{replace}
use Rattle.rep_model.specs.State.{Route, of, with, is_region}
use Rattle.rep_model.specs.Places.{after_death}
use Rattle.rep_model.specs.declared.machine.Machine.{Machine}
use Rattle.rep_model.specs.declared.machine.Side.{Side}
use Rattle.rep_model.specs.declared.machine.Hosted.{Hosted}
use Rattle.rep_model.specs.declared.machine.Region.{Region}
use Rattle.rep_model.specs.declared.machine.Flight.{Flight}
use Rattle.rep_model.specs.declared.machine.Ticket.{Ticket}
use Rattle.rep_laws.proofs.Lists.{All_weaker, All_append, All_found, All_mapped}
use Rattle.rep_laws.proofs.Finding.{All_replaced, find_more, find_changed}
use Rattle.rep_laws.proofs.Ranges.{Ranged, Inherits, inherits_still}
use Rattle.rep_laws.proofs.SeatPart.{turned_found}
use Rattle.rep_laws.proofs.ActSides.{entries_committed}
use Rattle.rep_laws.proofs.Acts.{Fresh, Act, LinkStands, TicketsEnd, ServerJoins, ServerStands, ServerDies, RegionsJoin, RegionTurns, EntryPends, PutPends, EntriesCommit, PeerJoins, PeerStands, PeerLeaves, PeersRestart, QueueStands, FormsTurn, FlightJoins, FlightStands}

pub record RangeSide (regions : List Hosted) : Type 0 where
  pub ranged : AllByRecursion (λ (h : Hosted). Ranged h.region) regions
  pub inherits : AllByRecursion (λ (h : Hosted). Inherits regions h.region) regions

abbrev pub RangeIn : Side → Type 0
RangeIn s = RangeSide s.regions

pub record Ranges (m : Machine) : Type 0 where
  pub a : RangeIn m.a
  pub b : RangeIn m.b
  pub c : RangeIn m.c

pub ranges_at : (c : Cluster) (m : Machine) → Ranges m → RangeIn (of c m)
ranges_at A m k = k.a
ranges_at B m k = k.b
ranges_at C m k = k.c

ranges_with : (c : Cluster) (s : Side) (m : Machine) → RangeIn s → Ranges m → Ranges (with c s m)
ranges_with A s m o k = record { a = o; b = k.b; c = k.c }
ranges_with B s m o k = record { a = k.a; b = o; c = k.c }
ranges_with C s m o k = record { a = k.a; b = k.b; c = o }

ranges_tickets : (m : Machine) (ts : List Ticket) → Ranges m → Ranges (record m { tickets = ts })
ranges_tickets m ts k = record { a = k.a; b = k.b; c = k.c }

ranges_flights : (m : Machine) (fs : List Flight) → Ranges m → Ranges (record m { flights = fs })
ranges_flights m fs k = record { a = k.a; b = k.b; c = k.c }

join_ranges : {regions : List Hosted} (hs : List Hosted) → AllByRecursion (Fresh regions) hs → RangeSide regions → RangeSide (regions ++ hs)
join_ranges {regions} hs new o =
    let still : (r : Region) → Inherits regions r → Inherits (regions ++ hs) r = λ r i. inherits_still regions (regions ++ hs) (λ n h e. (h, find_more (is_region n) h regions hs e, refl)) r i in
    record {
      ranged = All_append (λ (h : Hosted). Ranged h.region) regions hs o.ranged (All_weaker (λ h f. f.ranged o.ranged) hs new);
      inherits = All_append (λ (h : Hosted). Inherits (regions ++ hs) h.region) regions hs (All_weaker (λ h i. still h.region i) regions o.inherits) (All_weaker (λ h f. still h.region f.inherits) hs new);
    }

turn_ranges : {regions : List Hosted} (h new : Hosted) → find (is_region new.region.number) regions ≡ Some h → new.region ≡ h.region → RangeSide regions → RangeSide (replace (is_region new.region.number) new regions)
turn_ranges {regions} h new there same o =
    let now : List Hosted = replace (is_region new.region.number) new regions in
    let still : (r : Region) → Inherits regions r → Inherits now r = λ r i. inherits_still regions now (λ n g e. elim (turned_found h new regions there n g e) [
      | inl f ↦ (new, f.1, same ∙ ap (λ (x : Hosted). x.region) (sym f.0))
      | inr f ↦ (g, f, refl)
    ]) r i in
    let all : AllByRecursion (λ (g : Hosted). Inherits now g.region) regions = All_weaker (λ g i. still g.region i) regions o.inherits in
    record {
      ranged = All_replaced (λ (g : Hosted). Ranged g.region) (is_region new.region.number) new regions (subst Ranged (sym same) (All_found (λ (g : Hosted). Ranged g.region) (is_region new.region.number) regions h there o.ranged)) o.ranged;
      inherits = All_replaced (λ (g : Hosted). Inherits now g.region) (is_region new.region.number) new regions
          (subst (Inherits now) (sym same) (All_found (λ (g : Hosted). Inherits now g.region) (is_region new.region.number) regions h there all)) all;
    }

abbrev bereft : ℕ → Hosted → Hosted
bereft s h = record h { place = after_death s h.place }

die_ranges : {regions : List Hosted} (s : ℕ) → RangeSide regions → RangeSide (map (bereft s) regions)
die_ranges {regions} s o =
    let still : (r : Region) → Inherits regions r → Inherits (map (bereft s) regions) r =
    λ r i. inherits_still regions (map (bereft s) regions) (λ n h e. (bereft s h, find_changed (is_region n) (bereft s) (λ x. refl) regions ∙ ap (option_map (bereft s)) e, refl)) r i in
    record {
      ranged = All_mapped (λ (h : Hosted). Ranged h.region) (bereft s) regions o.ranged;
      inherits = All_mapped (λ (h : Hosted). Inherits (map (bereft s) regions) h.region) (bereft s) regions (All_weaker (λ h i. still h.region i) regions o.inherits);
    }

pub act_ranges : {way : Route} (m new : Machine) → Act way m new → Ranges m → Ranges new
act_ranges m new (LinkStands c pair ws link items) k = ranges_with c _ m (ranges_at c m k) k
act_ranges m new (TicketsEnd c test to) k = ranges_tickets m _ k
act_ranges m new (ServerJoins c pair s none) k = ranges_with c _ m (ranges_at c m k) k
act_ranges m new (ServerStands c pair v whole lowest found swept) k = ranges_with c _ m (ranges_at c m k) k
act_ranges m new (ServerDies c pair v found live) k = ranges_tickets _ _ (ranges_with c _ m (die_ranges v.number (ranges_at c m k)) k)
act_ranges m new (RegionsJoin c pair tables hs behind off more gone fresh) k = ranges_with c _ m (join_ranges hs fresh (ranges_at c m k)) k
act_ranges m new (RegionTurns c pair h to found same turns keeps) k = ranges_with c _ m (turn_ranges h to found same (ranges_at c m k)) k
act_ranges m new (EntryPends c pair v x whole served room none titled) k = ranges_with c _ m (ranges_at c m k) k
act_ranges m new (PutPends c pair v x served room ticket titled) k = ranges_tickets _ _ (ranges_with c _ m (ranges_at c m k) k)
act_ranges m new (EntriesCommit c pair v to xs ts commits) k = subst Ranges (sym (entries_committed c v.number v.log to xs ts m)) (ranges_tickets _ _ (ranges_with c _ m (ranges_at c m k) k))
act_ranges m new (PeerJoins c pair p kind tables none there) k = ranges_with c _ m (ranges_at c m k) k
act_ranges m new (PeerStands c pair x to found same sync covers wide) k = ranges_with c _ m (ranges_at c m k) k
act_ranges m new (PeerLeaves c pair x found plain) k = ranges_with c _ m (ranges_at c m k) k
act_ranges m new (PeersRestart c pair) k = ranges_with c _ m (ranges_at c m k) k
act_ranges m new (QueueStands c pair q to found) k = ranges_with c _ m (ranges_at c m k) k
act_ranges m new (FormsTurn c pair forms) k = ranges_with c _ m (ranges_at c m k) k
act_ranges m new (FlightJoins f number) k = ranges_flights m _ k
act_ranges m new (FlightStands j f to found number) k = ranges_flights m _ k
