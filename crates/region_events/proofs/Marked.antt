-- The marker of an opening or a closing, by how it went.
use Rattle.std.proofs.Common.{ℕ, ◌+◌, ◌<◌, ◌≤◌, ◌≡◌, Bool, true, false, List, [], ◌∷◌, ◌++◌, find, slice_get, Some, None, Result, Ok, Err, refl, ap, sym, ◌∙◌, subst, arith, eq-eqb, eqb-true}
use Rattle.std.specs.Prelude.{nat_lt, IsSome, IfOk}
use Rattle.std.specs.Option.{option_map}
use Rattle.std.proofs.lemmas.Bool.{true≢false}
use Rattle.std.proofs.lemmas.Bool.Decides.{nat_tests}
use Rattle.std.proofs.lemmas.Option.{same_Some, none-some}
use Rattle.rep_types.specs.declared.ids.Cluster.{Cluster}
use Rattle.rep_types.specs.declared.ids.Cluster.TheVariants.{A, B, C}
use Rattle.rep_types.specs.declared.state.PlaceOf.{PlaceOf}
use Rattle.rep_types.specs.declared.state.PlaceOf.TheVariants.{Off, Opening, On, Closing, Lost, Gone}
use Rattle.rep_types.specs.declared.state.Call.{Call}
use Rattle.rep_types.specs.declared.entry.Entry.{Entry}
use Rattle.rep_types.specs.declared.refusal.Refusal.{Refusal}
use Rattle.rep_types.specs.declared.refusal.Refusal.TheVariants as refusal
use Rattle.rep_types.specs.declared.reply.Reply.{Reply}
use Rattle.rep_types.specs.declared.reply.Reply.TheVariants as reply
use Rattle.rep_vault.specs.Contents.{Contents}
use Rattle.rep_vault.specs.Tallies.{Tally}
use Rattle.wal_entry.specs.Framed.{HasFrame, IsTypedKind, IsFramedKind}
use Rattle.wal_entry.specs.Length.{frame_length}
use Rattle.wal_roll.specs.Blamed.{IsFault}
use Rattle.wal_roll.specs.Log.{LogValue}
use Rattle.region_server.specs.Host.{Stands as HostStands}
use Rattle.region_meta.specs.Regions as meta
use Rattle.rep_model.specs.Keyed.{replace}
use Rattle.rep_model.specs.State.{Route, of, mark, is_server, is_region}
use Rattle.rep_model.specs.Words.{is_in}
use Rattle.rep_model.specs.Path.{refusal_of}
use Rattle.rep_model.specs.RegionEvents as plans
use Rattle.rep_model.specs.Places.{opens_at, closes_at, capped, used, lacks_room}
use Rattle.rep_model.specs.Changes.{takes_pending}
use Rattle.rep_model.specs.Commits.{commit_count, pending_count}
use Rattle.rep_model.specs.Tickets.{acks, is_acknowledged, newly}
use Rattle.rep_model.specs.LogEvents.{own_pending, emptied}
use Rattle.rep_model.specs.Row.{answers, fault_among}
use Rattle.rep_model.specs.RegionEvents.{moved}
use Rattle.rep_model.specs.declared.machine.Machine.{Machine}
use Rattle.rep_model.specs.declared.machine.Side.{Side}
use Rattle.rep_model.specs.declared.machine.Commit.{Commit}
use Rattle.rep_model.specs.declared.machine.Pending.{Pending}
use Rattle.rep_model.specs.declared.machine.Server.{Server}
use Rattle.rep_model.specs.declared.machine.Ticket.{Ticket}
use Rattle.rep_laws.proofs.Lists.{In, found_in, found_passes, All_found}
use Rattle.rep_laws.proofs.Acts.{works_at}
use Rattle.rep_laws.proofs.Citing.{is_refused}
use Rattle.rep_laws.proofs.CitingRows.{row_broken, row_need_roll, row_failed, row_done}
use Rattle.rep_laws.proofs.CitedMore.{working_is_live}
use Rattle.rep_laws.proofs.Sides.{settled_side, told_after, wrote}
use Rattle.cluster_core.specs.declared.parts.ClusterCore.{ClusterCore}
use Rattle.cluster_core.specs.declared.parts.CoreError.{CoreError}
use Rattle.cluster_core.specs.declared.parts.Station.{Station}
use Rattle.cluster_core.specs.declared.entering.EntryError.{EntryError}
use Rattle.cluster_core.specs.declared.entering.EntryError.TheVariants.{Broken, NeedRoll, StoreFault, Memory}
use Rattle.cluster_core.specs.Absorbing.{standing_so, committed_side}
use Rattle.cluster_core.specs.Does.{FaultTold, Answers, Reached}
use Rattle.cluster_core.specs.Entering.{MayEnter, Enters}
use Rattle.cluster_core.specs.Entries.{tickets_of}
use Rattle.cluster_core.specs.Logs.{log_of}
use Rattle.cluster_core.specs.Memory.{map_region, server_at}
use Rattle.cluster_core.specs.Orderly.{FitsLog, IsOrderly}
use Rattle.cluster_core.specs.Stands.{waiting, Stands}
use Rattle.cluster_core.proofs.Accepted.{tickets_pushed}
use Rattle.cluster_core.proofs.Acknowledged.{plain_from, all_plain, acks_are}
use Rattle.cluster_core.proofs.Answering.{does, does_refused}
use Rattle.cluster_core.proofs.Between.{failed_by}
use Rattle.cluster_core.proofs.Lookups.{region_of_map}
use Rattle.cluster_core.proofs.Reaching.{orderly}
use Rattle.cluster_core.proofs.Seats.{next_of}
use Rattle.cluster_core.proofs.Settling.{coming_numbered, left_with, of_left, beside_left, flights_left}
use Rattle.cluster_core.proofs.Simple.{does_with}
use Rattle.cluster_core.proofs.Synced.{host_stands}
use Rattle.region_events.specs.declared.markers.Ending.{Ending}
use Rattle.region_events.specs.declared.markers.Ending.TheVariants as ending
use Rattle.region_events.specs.Marks.{ends_at, ended, kind_of, last_sites, ending_event, ending_plan, unmarked, HasMarking, IsMarker}
use Rattle.region_events.proofs.Marking.{row_is, is_call}
use Rattle.region_events.proofs.Moving.{moved_side}

-- ---- of both kinds

pub opens_is : (p : PlaceOf) (s : ℕ) → opens_at p ≡ Some s → p ≡ Opening s
opens_is (Opening t) s e = ap (λ n. Opening n) (same_Some t s e)
opens_is Off s e = absurd (none-some s e)
opens_is (On t) s e = absurd (none-some s e)
opens_is (Closing t) s e = absurd (none-some s e)
opens_is (Lost t) s e = absurd (none-some s e)
opens_is Gone s e = absurd (none-some s e)

pub closes_is : (p : PlaceOf) (s : ℕ) → closes_at p ≡ Some s → p ≡ Closing s
closes_is (Closing t) s e = ap (λ n. Closing n) (same_Some t s e)
closes_is Off s e = absurd (none-some s e)
closes_is (Opening t) s e = absurd (none-some s e)
closes_is (On t) s e = absurd (none-some s e)
closes_is (Lost t) s e = absurd (none-some s e)
closes_is Gone s e = absurd (none-some s e)

ends_works : (w : Ending) (p : PlaceOf) (s : ℕ) → ends_at w p ≡ Some s → works_at s p ≡ true
ends_works ending.Opens p s e = ap (works_at s) (opens_is p s e) ∙ eq-eqb s s refl
ends_works ending.Closes p s e = ap (works_at s) (closes_is p s e) ∙ eq-eqb s s refl

ends_seated : (w : Ending) (p : PlaceOf) (s : ℕ) → ends_at w p ≡ Some s → server_at p ≡ Some s
ends_seated ending.Opens p s e = ap server_at (opens_is p s e)
ends_seated ending.Closes p s e = ap server_at (closes_is p s e)

typed_kind : (w : Ending) → IsTypedKind (kind_of w)
typed_kind ending.Opens = tt
typed_kind ending.Closes = tt

framed_kind : (w : Ending) → IsFramedKind (kind_of w) None
framed_kind ending.Opens = refl
framed_kind ending.Closes = refl

length_is : (w : Ending) → frame_length (kind_of w) ≡ 32
length_is ending.Opens = refl
length_is ending.Closes = refl

-- ---- numbers

not_sealed : (b live : Bool) → live ≡ true → (b ≡ true → live ≡ false) → b ≡ false
not_sealed true live lives dead = absurd (true≢false (sym lives ∙ dead refl))
not_sealed false live lives dead = refl

mark_least : (c : Cluster) → 1 ≤ mark c
mark_least A = omega arith
mark_least B = omega arith
mark_least C = omega arith

mark_most : (c : Cluster) → mark c ≤ 7
mark_most A = omega arith
mark_most B = omega arith
mark_most C = omega arith

some_seq : (seq n : ℕ) → seq ≡ n + 1 → 1 ≤ seq
some_seq seq n e = omega arith

has_room : (u n : ℕ) → n ≡ 32 → u + n ≤ 65536 → nat_lt 65536 (u + 32) ≡ false
has_room u n e h = grind (arith, nat_tests)

no_room : (u v n : ℕ) → u ≡ v → n ≡ 32 → 65536 < u + n → nat_lt 65536 (v + 32) ≡ true
no_room u v n e f h = grind (arith, nat_tests)

capped_same : (n : ℕ) → n ≤ 65536 → capped n ≡ n
capped_same n h = omega arith

pub has_space : (w : Ending) (own : Cluster) (srv : Server) (m : Machine) → used own srv m + frame_length (kind_of w) ≤ 65536 → lacks_room own srv 32 m ≡ false
has_space w own srv m = has_room (used own srv m) (frame_length (kind_of w)) (length_is w)

abbrev marker_entry : Ending → Cluster → ℕ → ℕ → Entry
marker_entry w own r seq = record { region = r; seq = seq; kind = kind_of w; marks = mark own; origin = None }

-- ---- a marker whose place is known

module _ {way : Route} (w : Ending) (own : Cluster) (old : Contents) (core : ClusterCore) (m : Machine) (r at : ℕ) (reached : Reached way m) (inside : is_in way own ≡ true)
    (stands : Stands own old core (of own m))
    (k : HasMarking (ends_at w) own old core.stations r m at) where
  abbrev waits : Pending
  waits = own_pending own k.hosted.region (kind_of w) None

  pub number_is : k.hosted.region.number ≡ r
  number_is = eqb-true k.hosted.region.number r (found_passes (is_region r) (of own m).regions k.hosted k.known)

  pub there : find (is_region k.hosted.region.number) (of own m).regions ≡ Some k.hosted
  there = ap (λ n. find (is_region n) (of own m).regions) number_is ∙ k.known

  pub seated : server_at k.hosted.place ≡ Some k.on
  seated = ends_seated w k.hosted.place k.on k.place

  pub mapped : meta.region_of r core.map ≡ Some (map_region k.hosted)
  mapped = region_of_map r core.map (of own m) stands.regions ∙ ap (option_map map_region) k.known

  pub is_known : IsSome (meta.region_of r core.map)
  is_known = subst IsSome (sym mapped) refl

  lives : k.station.server.live ≡ true
  lives =
      let v : (v : Server) × (find (is_server k.on) (of own m).servers ≡ Some v) × (v.live ≡ true) =
      subst (λ (n : Machine). In k.hosted (of own n).regions → (v : Server) × (find (is_server k.on) (of own n).servers ≡ Some v) × (v.live ≡ true)) reached.leads
      (λ i. working_is_live way reached.steps reached.legal own inside k.hosted i k.on (ends_works w k.hosted.place k.on k.place)) (found_in (is_region r) (of own m).regions k.hosted k.known) in
      ap (λ (x : Server). x.live) (same_Some k.station.server v.0 (sym k.station.known ∙ v.1)) ∙ v.2

  pub tidy : IsOrderly (of own m)
  tidy = orderly own inside m reached

  unsealed : k.station.server.sealed ≡ false
  unsealed = not_sealed k.station.server.sealed k.station.server.live lives
      (All_found (λ (v : Server). v.sealed ≡ true → v.live ≡ false) (is_server k.on) (of own m).servers k.station.server k.station.known tidy.sealed_dead)

  fits : used own k.station.server m ≤ 65536
  fits = All_found (FitsLog (of own m).commits) (is_server k.on) (of own m).servers k.station.server k.station.known tidy.fits

  -- what the station tells of its log
  pub log_same : k.station.station.host.log.server ≡ k.station.server.number
  log_same = ap (λ (l : LogValue). l.server) (host_stands old (of own m) k.station.station k.station.server k.station.stands unsealed).writer.same

  log_number : k.station.station.host.log.number ≡ k.station.server.log
  log_number = ap (λ (l : LogValue). l.number) (host_stands old (of own m) k.station.station k.station.server k.station.stands unsealed).writer.same

  -- the host there stands
  pub marking_host : (st : Station) → slice_get core.stations at ≡ Some st → HostStands old st.host
  marking_host st found =
      let same : k.station.station ≡ st = same_Some k.station.station st (sym k.station.there ∙ found) in
      subst (λ (y : Station). HostStands old y.host) same (log_of (of own m).commits k.station.server, host_stands old (of own m) k.station.station k.station.server k.station.stands unsealed)

  -- where it wasn't committed
  module _ (new : Contents) (core' : ClusterCore) (s l : ℕ) (server : (st : Station) → slice_get core.stations at ≡ Some st → s ≡ st.host.log.server)
      (log : (st : Station) → slice_get core.stations at ≡ Some st → l ≡ st.host.log.number) where
    refused : (why : Refusal) → refusal_of (ending_plan w own r m) ≡ Some why → core' ≡ core → new ≡ old → Answers way own (ending_event w own r) m old core new core' (Ok (reply.Refused why))
    refused why e a b =
        does_refused own _ m new core' why (row_is way w own r (reply.Refused why) m ∙ is_refused (ending_plan w own r m) why (reply.Refused why) m e)
        (subst (λ (v : ClusterCore). Stands own new v (of own m)) (sym a) (subst (λ (c : Contents). Stands own c core (of own m)) (sym b) stands))

    by_error : (why : EntryError) → Enters own old core (of own m) k.station.server waits new core' (Err why) → Answers way own (ending_event w own r) m old core new core' (unmarked own s l why)
    by_error Broken q =
        refused (refusal.Broken l)
        (row_broken (ends_at w) (ended w) (kind_of w) (last_sites w own) own r m k.hosted k.known k.on k.place k.station.server k.station.known q.0
        ∙ ap (λ n. Some (refusal.Broken n)) (sym (log k.station.station k.station.there ∙ log_number)))
        q.1 q.2
    by_error (NeedRoll u n) q =
        let server_same : k.station.server.number ≡ s = sym (server k.station.station k.station.there ∙ log_same) in
        let used_same : capped (used own k.station.server m) ≡ u = capped_same (used own k.station.server m) fits ∙ sym q.1 in
        let needed : n ≡ 32 = q.2 ∙ length_is w in
        refused (refusal.NeedRoll s u n)
        (row_need_roll (ends_at w) (ended w) (kind_of w) (last_sites w own) own r m k.hosted k.known k.on k.place k.station.server k.station.known q.0
        (no_room u (used own k.station.server m) n q.1 needed q.3)
        ∙ (λ i. Some (refusal.NeedRoll (server_same i) (used_same i) (sym needed i))))
        q.4 q.5
    by_error (StoreFault j n) q =
        does_with own _ m (standing_so (takes_pending waits false k.station.server) (of own m)) new core' (reply.StoreFault own j n)
        (row_is way w own r (reply.StoreFault own j n) m
        ∙ row_failed (ends_at w) (ended w) (kind_of w) (last_sites w own) own r m k.hosted k.known k.on k.place k.station.server k.station.known q.0 (has_space w own k.station.server m q.1) j n
        (is_call own j q.2))
        q.3
    by_error (Memory changed) q = q

    pub not_marked : (why : EntryError) (result : Result Reply CoreError) → result ≡ unmarked own s l why → Enters own old core (of own m) k.station.server waits new core' (Err why)
        → Answers way own (ending_event w own r) m old core new core' result
    not_marked why result is q = subst (λ (a : Result Reply CoreError). Answers way own (ending_event w own r) m old core new core' a) (sym is) (by_error why q)

  module _ (e : Entry) (is : IsMarker own core.index r (kind_of w) e) where
    pub seq_is : e.seq ≡ commit_count k.hosted.region.number (of own m).commits + pending_count k.hosted.region.number k.station.server.pending + 1
    seq_is = next_of own inside m reached r k.hosted k.on k.station.server k.known seated k.station.known core.index e.seq stands.index is.id

    framed : HasFrame e
    framed = subst HasFrame (sym is.entry) (record {
      typed = record { region_least = is.id.least; region_most = is.id.most; seq = is.id.fits; kind = typed_kind w; origin = tt };
      framed = record { seq = some_seq _ _ seq_is; marks_least = mark_least own; marks_most = mark_most own; origin_seq = tt; kind = framed_kind w };
    })

    pub may_enter : MayEnter (of own m) k.on k.station.server (own_pending own k.hosted.region (kind_of w) None) e
    may_enter = record {
      unsealed = unsealed;
      entry = is.entry ∙ (λ i. marker_entry w own (sym number_is i) (seq_is i));
      ticket = refl;
      placed = (k.hosted, there, seated);
      framed = framed;
    }

    -- ---- where it was committed

    abbrev all : List Pending
    all = k.station.server.pending ++ waits ∷ []

    abbrev committed : Side
    committed = committed_side k.station.server (emptied k.station.server) all (of own m)

    pub stays_known : (mid : Contents) (core' : ClusterCore) (ks : List ℕ) → Enters own old core (of own m) k.station.server (own_pending own k.hosted.region (kind_of w) None) mid core' (Ok ks)
        → IsSome (meta.region_of r core'.map)
    stays_known mid core' ks q = subst IsSome (sym (region_of_map r core'.map committed q.3.regions ∙ ap (option_map map_region) k.known)) refl

    module _ (place : PlaceOf) where
      abbrev begun : Side
      begun = record (of own m) {
        servers = replace (is_server k.station.server.number) (emptied k.station.server) (of own m).servers;
        regions = replace (is_region k.hosted.region.number)
            (moved place k.hosted) (of own m).regions;
      }

      abbrev tickets : List Ticket
      tickets = told_after own k.station.server.number k.station.server.log all begun m.tickets

      abbrev after : Machine
      after = plans.marked own k.hosted k.station.server waits place m

      after_is : after ≡ left_with own (moved_side place k.hosted committed) tickets m
      after_is =
          settled_side own k.station.server.number k.station.server.log all begun m
          ∙ ap (λ (xs : List Commit). left_with own (record begun { commits = (of own m).commits ++ xs; written = wrote all (of own m).written }) tickets m)
          (coming_numbered k.station.server.number k.station.server.log (of own m).commits all)

      acks_same : acks m after ≡ tickets_of k.station.server.pending
      acks_same =
          ap (λ (n : Machine). newly is_acknowledged 1 m.tickets n.tickets) after_is
          ∙ (ap (newly is_acknowledged 1 m.tickets) (all_plain own k.station.server.number k.station.server.log all begun m.tickets stands.link
          ∙ ap (λ ks. plain_from 1 ks m.tickets) (tickets_pushed k.station.server.pending waits))
          ∙ acks_are own inside m reached k.on k.station.server k.station.known lives)

    -- no call failed
    calm : (n : ℕ) (ks : List ℕ) → fault_among (last_sites w own) (reply.Marked n ks) ≡ None
    calm n ks = by w
      where
        by : (v : Ending) → fault_among (last_sites v own) (reply.Marked n ks) ≡ None
        by ending.Opens = refl
        by ending.Closes = refl

    -- the region has moved
    pub marked : (mid new : Contents) (core' core'' : ClusterCore) (ks : List ℕ) → Enters own old core (of own m) k.station.server (own_pending own k.hosted.region (kind_of w) None) mid core' (Ok ks)
        → Stands own new core'' (moved_side (ended w k.station.server.number) k.hosted
        (committed_side k.station.server (emptied k.station.server) (k.station.server.pending ++ own_pending own k.hosted.region (kind_of w) None ∷ []) (of own m)))
        → Answers way own (ending_event w own r) m old core new core'' (Ok (reply.Marked e.seq ks))
    marked mid new core' core'' ks q left =
        let said : Reply = reply.Marked e.seq ks in
        let place : PlaceOf = ended w k.station.server.number in
        let acked : acks m (after place) ≡ ks = acks_same place ∙ (ap (λ b. waiting b (tickets_of k.station.server.pending)) (sym lives) ∙ sym q.2) in
        does own _ m (after place) new core'' said
        (row_is way w own r said m
        ∙ (row_done (ends_at w) (ended w) (kind_of w) (last_sites w own) own r m k.hosted k.known k.on k.place k.station.server k.station.known q.0 (has_space w own k.station.server m q.1) said refl
        (calm e.seq ks)
        ∙ (λ i. answers (reply.Marked (sym seq_is i) (acked i)) (after place))))
        (subst (λ (v : Side). Stands own new core'' v) (sym (ap (of own) (after_is place) ∙ of_left own (moved_side place k.hosted committed) (tickets place) m)) left)
        (λ d n. ap (of d) (after_is place) ∙ beside_left own (moved_side place k.hosted committed) (tickets place) m d n)
        (ap (λ (n : Machine). n.flights) (after_is place) ∙ flights_left own (moved_side place k.hosted committed) (tickets place) m)

-- ---- where it isn't made

pub end_refused : (way : Route) (w : Ending) (own : Cluster) (r : ℕ) (m : Machine) (c : Contents) (core : ClusterCore) (why : Refusal) → refusal_of (ending_plan w own r m) ≡ Some why
    → Stands own c core (of own m)
    → Answers way own (ending_event w own r) m c core c core (Ok (reply.Refused why))
end_refused way w own r m c core why e stands =
    does_refused own _ m c core why (row_is way w own r (reply.Refused why) m ∙ is_refused (ending_plan w own r m) why (reply.Refused why) m e) stands

-- ---- counts of faults

-- a fault of the entry is told of the cluster's own store
pub told_so : (own : Cluster) (s l : ℕ) (why : EntryError) (result : Result Reply CoreError) (old new : Tally) → result ≡ unmarked own s l why
    → ((j : Call) (n : ℕ) → ◌≡◌ {A = Result (List ℕ) EntryError} (Err why) (failed_by j n) → IsFault j n old new)
    → IfOk result (λ said. FaultTold own said old new)
told_so own s l why result old new is fault = subst (λ (a : Result Reply CoreError). IfOk a (λ said. FaultTold own said old new)) (sym is) (by why fault)
  where
    by : (q : EntryError) → ((j : Call) (n : ℕ) → ◌≡◌ {A = Result (List ℕ) EntryError} (Err q) (failed_by j n) → IsFault j n old new) → IfOk (unmarked own s l q) (λ said. FaultTold own said old new)
    by Broken f = tt
    by (NeedRoll u n) f = tt
    by (StoreFault j n) f = let b = f j n refl in record { store_is = refl; kind = b.kind; count = b.count; rose = b.rose }
    by (Memory changed) f = tt
