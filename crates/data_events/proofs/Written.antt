-- What a put is, once its append has answered.
use Rattle.std.proofs.Common.{ℕ, ◌+◌, ◌<◌, ◌≤◌, ◌≡◌, ◌^◌, not, Bool, true, false, List, [], ◌∷◌, ◌++◌, length, slice_get, Option, Some, None, Result, Ok, Err, refl, ap, sym, ◌∙◌, subst, arith}
use Rattle.std.specs.Prelude.{nat_lt, IfOk}
use Rattle.std.specs.List.{list_all, list_any}
use Rattle.std.proofs.lemmas.Option.{same_Some}
use Rattle.std.proofs.lemmas.Bool.Decides.{nat_tests}
use Rattle.rep_types.specs.Edit.{edit_length}
use Rattle.rep_types.specs.declared.ids.Cluster.{Cluster}
use Rattle.rep_types.specs.declared.state.Call.TheVariants as call
use Rattle.rep_types.specs.declared.cell.Cell.{Cell}
use Rattle.rep_types.specs.declared.entry.Entry.{Entry}
use Rattle.rep_types.specs.declared.entry.EntryKind.TheVariants as kind
use Rattle.rep_types.specs.declared.event.Event.TheVariants as event
use Rattle.rep_types.specs.declared.refusal.Refusal.TheVariants as refusal
use Rattle.rep_types.specs.declared.reply.Reply.{Reply}
use Rattle.rep_types.specs.declared.reply.Reply.TheVariants as reply
use Rattle.rep_vault.specs.Contents.{Contents}
use Rattle.rep_vault.specs.Tallies.{Tally}
use Rattle.wal_entry.specs.Length.{frame_length}
use Rattle.wal_entry.specs.Framed.{HasFrame}
use Rattle.wal_entry.proofs.Verdicts.{length-spelling}
use Rattle.wal_roll.specs.Log.{Log, LogValue, wal, log_name, used_of}
use Rattle.wal_roll.specs.Steps.{OnlyFile}
use Rattle.wal_roll.specs.Blamed.{Blamed}
use Rattle.wal_roll.specs.declared.error.LogError.{LogError}
use Rattle.wal_roll.specs.declared.error.LogError.TheVariants.{Broken, NeedRoll, StoreFault, Memory}
use Rattle.region_server.specs.Host.{HostValue, IsHost, with_ticket, Stands as HostStands}
use Rattle.rep_model.specs.State.{Route, of, mark}
use Rattle.rep_model.specs.Words.{is_in}
use Rattle.rep_model.specs.Places.{Seat, seat, capped, used, lacks_room}
use Rattle.rep_model.specs.Changes.{takes_pending}
use Rattle.rep_model.specs.Commits.{commit_count, pending_count}
use Rattle.rep_model.specs.Tickets as tickets
use Rattle.rep_model.specs.Row.{answers, is_site, site}
use Rattle.rep_model.specs.LogEvents.{put_edit, has_family, is_barred, own_pending, pended, broken_by, put_plan}
use Rattle.rep_model.specs.Plan.{told}
use Rattle.rep_model.specs.declared.machine.Machine.{Machine}
use Rattle.rep_model.specs.declared.machine.Pending.{Pending}
use Rattle.rep_laws.proofs.Lists.{In}
use Rattle.rep_laws.proofs.Sides.{of_with, of_tickets, flights_with}
use Rattle.rep_laws.proofs.CitedMore.{frames_fit}
use Rattle.rep_laws.proofs.CitingRows.{put_broken, put_failed, put_done}
use Rattle.cluster_core.specs.declared.parts.ClusterCore.{ClusterCore}
use Rattle.cluster_core.specs.declared.parts.CoreError.{CoreError}
use Rattle.cluster_core.specs.declared.parts.Station.{Station}
use Rattle.cluster_core.specs.Lookups.{HasSeat}
use Rattle.cluster_core.specs.Absorbing.{standing_so}
use Rattle.cluster_core.specs.Accepting.{next_entry, with_pending, TakesIn, IsNextId}
use Rattle.cluster_core.specs.Does.{Reached, Answers, FaultTold}
use Rattle.cluster_core.specs.Entries.{tickets_of}
use Rattle.cluster_core.specs.Logs.{log_of}
use Rattle.cluster_core.specs.Orderly.{IsPlaced}
use Rattle.cluster_core.specs.Stands.{Stands, waiting}
use Rattle.cluster_core.proofs.Accepted.{accepted, log_pushed, log_torn, tickets_pushed}
use Rattle.cluster_core.proofs.Answering.{does, plan_refused, is_site_self}
use Rattle.cluster_core.proofs.Lookups.{seat_is, used_is}
use Rattle.cluster_core.proofs.Seats.{hosts, numbered, seat_lives, seat_is_open, seat_place, seat_next, server_in}
use Rattle.data_events.specs.Writes.{MayPut, put_reply}
use Rattle.cluster_core.proofs.Simple.{beside_with}
use Rattle.data_events.proofs.Allowed.{not_long, not_barred, put_need_roll}

-- the entry that memory makes of a put
abbrev pub put_entry : Cluster → List ℕ → List ℕ → List Cell → ℕ → ℕ → Entry
put_entry own name row cells region seq = record { region = region; seq = seq; kind = kind.Write (put_edit name row cells); marks = mark own; origin = None }

not_false : (b : Bool) → not b ≡ false → b ≡ true
not_false true e = refl
not_false false e = absurd (cc)

not_true : (b : Bool) → not b ≡ true → b ≡ false
not_true true e = absurd (cc)
not_true false e = refl

waiting_more : (live : Bool) (k : ℕ) (ks ts : List ℕ) → live ≡ true → ts ≡ waiting live ks → with_ticket (Some k) ts ≡ waiting live (with_ticket (Some k) ks)
waiting_more true k ks ts lives e = ap (with_ticket (Some k)) e
waiting_more false k ks ts lives e = absurd (cc)

fewer : (seq a b : ℕ) → seq ≡ a + b + 1 → seq < 2 ^ 64 → b + 1 < 2 ^ 64
fewer seq a b e h = omega arith

-- room, by what the writer counts
has_room : (u v s n : ℕ) → u ≡ v → s ≡ n → u + s ≤ 65536 → nat_lt 65536 (v + n) ≡ false
has_room u v s n e f h = grind (arith, nat_tests)

no_room : (u v s n x y : ℕ) → u ≡ v → s ≡ n → x ≡ u → y ≡ s → 65536 < x + y → nat_lt 65536 (v + n) ≡ true
no_room u v s n x y e f p q h = grind (arith, nat_tests)

capped_same : (n : ℕ) → n ≤ 65536 → capped n ≡ n
capped_same n h = omega arith

module _ (way : Route) (own : Cluster) (old new : Contents) (core core' : ClusterCore) (m : Machine) (name row : List ℕ) (cells : List Cell) (region at seq ticket : ℕ)
    (pair : is_in way own ≡ true) (reached : Reached way m) (stands : Stands own old core (of own m)) (may : MayPut own old name row cells m core.stations region at) (number : ticket ≡ length m.tickets + 1)
    (id : IsNextId core.index region seq) (framed : HasFrame (put_entry own name row cells region seq))
    (small : may.seat.station.station.host.log.server < 2 ^ 32) (few : may.seat.station.station.host.log.number < 2 ^ 32)
    (frame : OnlyFile wal (log_name may.seat.station.station.host.log.server may.seat.station.station.host.log.number) old new) where
  abbrev need : ℕ
  need = frame_length (kind.Write (put_edit name row cells))

  abbrev waits : Option ℕ → Pending
  waits t = own_pending own may.seat.hosted.region (kind.Write (put_edit name row cells)) t

  abbrev there : Seat
  there = record { server = may.seat.station.server; region = may.seat.hosted.region }

  sealed : may.seat.station.server.sealed ≡ false
  sealed = seat_is_open own pair m reached old core.stations name row region at may.seat

  seq_is : seq ≡ commit_count may.seat.hosted.region.number (of own m).commits + pending_count may.seat.hosted.region.number may.seat.station.server.pending + 1
  seq_is = seat_next own pair m reached old core.stations name row region at may.seat core.index seq stands.index id

  entry_is : (t : Option ℕ) → put_entry own name row cells region seq ≡ next_entry (of own m).commits may.seat.station.server.pending (waits t)
  entry_is t = λ i. record { region = sym may.seat.number i; seq = seq_is i; kind = kind.Write (put_edit name row cells); marks = mark own; origin = None }

  its_place : IsPlaced (of own m).regions may.seat.on may.seat.hosted.region.number
  its_place = subst (IsPlaced (of own m).regions may.seat.on) (sym may.seat.number) (seat_place own pair m reached old core.stations name row region at may.seat)

  -- memory and the store after an append, whether it failed or not
  stands_so : (whole : Bool) (t : Option ℕ) (h : HostValue) → IsHost new h (log_of (of own m).commits (takes_pending (waits t) whole may.seat.station.server))
      → h.tickets ≡ waiting may.seat.station.server.live (tickets_of (may.seat.station.server.pending ++ waits t ∷ [])) → core' ≡ with_pending at may.seat.station.station h region core
      → Stands own new core' (standing_so (takes_pending (waits t) whole may.seat.station.server) (of own m))
  stands_so whole t h host told made =
      subst (λ (w : ClusterCore). Stands own new w (standing_so (takes_pending (waits t) whole may.seat.station.server) (of own m))) (ap (λ r. with_pending at may.seat.station.station h r core) may.seat.number ∙ sym made)
      (accepted own old new core (of own m) may.seat.on at may.seat.station h (waits t) whole stands small few frame sealed host told
      (subst HasFrame (entry_is t) framed) (numbered own pair m reached) its_place (fewer seq _ _ seq_is id.fits))

  stays : core' ≡ core → new ≡ old → Stands own new core' (of own m)
  stays a b = subst (λ (w : ClusterCore). Stands own new w (of own m)) (sym a) (subst (λ (k : Contents). Stands own k core (of own m)) (sym b) stands)

  -- ---- the row

  abbrev failed_state : Machine
  failed_state = broken_by own may.seat.station.server (waits None) m

  abbrev done_state : Machine
  done_state = tickets.with_ticket own (pended own may.seat.station.server (waits (Some (length m.tickets + 1))) m)

  seated : seat own name row m ≡ Some there
  seated = seat_is old (of own m) core.stations name row region at may.seat

  short : nat_lt 8192 (edit_length (put_edit name row cells)) ≡ false
  short = not_long (edit_length (put_edit name row cells)) may.short

  held : not (list_all (has_family may.table.families) cells) ≡ false
  held = ap not may.families

  free : is_barred own name m ≡ false
  free = not_barred own name m stands.link

  used_same : used_of may.seat.station.station.host.log ≡ used own may.seat.station.server m
  used_same = used_is (of own m).commits may.seat.station.server may.seat.station.station.host.log (hosts old (of own m) core.stations may.seat.on at may.seat.station sealed).writer.same

  state_done : of own done_state ≡ standing_so (takes_pending (waits (Some (length m.tickets + 1))) true may.seat.station.server) (of own m)
  state_done = of_tickets own done_state.tickets (pended own may.seat.station.server (waits (Some (length m.tickets + 1))) m) ∙ of_with own (standing_so (takes_pending (waits (Some (length m.tickets + 1))) true may.seat.station.server) (of own m)) m

  state_failed : of own failed_state ≡ standing_so (takes_pending (waits None) false may.seat.station.server) (of own m)
  state_failed = of_with own (standing_so (takes_pending (waits None) false may.seat.station.server) (of own m)) m

  fits : used own may.seat.station.server m ≤ 65536
  fits =
      subst (λ (n : Machine). In may.seat.station.server (of own n).servers → used own may.seat.station.server n ≤ 65536) reached.leads (λ i. frames_fit way reached.steps reached.legal own pair may.seat.station.server i)
      (server_in own pair m reached old core.stations name row region at may.seat)

  pub put_does : (r : Result (Unit {0}) LogError) → TakesIn (put_entry own name row cells region seq) (Some ticket) at may.seat.station.station (log_of (of own m).commits may.seat.station.server) old core new core' r
      → Answers way own (event.Put own name row cells) m old core new core' (put_reply own may.seat.station.server.number may.seat.station.server.log region seq ticket r)
  put_does (Ok u) t =
      let said : Reply = reply.Accepted region seq ticket in
      let room : lacks_room own may.seat.station.server need m ≡ false = has_room _ _ _ _ used_same (length-spelling (put_entry own name row cells region seq)) t.2 in
      let answered : told (put_plan own name row cells m) said m ≡ answers said done_state =
      put_done own name row cells m short may.table may.known held free there seated said (not_false may.seat.station.server.whole t.1) room refl
      ∙ (λ i. answers (reply.Accepted (may.seat.number i) (sym seq_is i) (sym number i)) done_state) in
      let told_so : t.0.tickets ≡ waiting may.seat.station.server.live (tickets_of (may.seat.station.server.pending ++ waits (Some (length m.tickets + 1)) ∷ [])) =
      t.4 ∙ (ap (λ k. with_ticket (Some k) may.seat.station.station.host.tickets) number
      ∙ (waiting_more may.seat.station.server.live (length m.tickets + 1) (tickets_of may.seat.station.server.pending) may.seat.station.station.host.tickets (seat_lives own pair m reached old core.stations name row region at may.seat) may.seat.station.stands.tickets
      ∙ ap (waiting may.seat.station.server.live) (sym (tickets_pushed may.seat.station.server.pending (waits (Some (length m.tickets + 1))))))) in
      does own (told (put_plan own name row cells m) said m) m done_state new core' said answered
      (subst (Stands own new core') (sym state_done) (stands_so true (Some (length m.tickets + 1)) t.0
      (subst (IsHost new t.0) (log_pushed (of own m).commits may.seat.station.server (waits (Some (length m.tickets + 1))) _ (entry_is (Some (length m.tickets + 1))) t.1) t.3) told_so t.5))
      (λ d n. of_tickets d done_state.tickets (pended own may.seat.station.server (waits (Some (length m.tickets + 1))) m) ∙ beside_with own _ m d n)
      (flights_with own _ m)
  put_does (Err Broken) t =
      plan_refused own (put_plan own name row cells m) m new core' (refusal.Broken may.seat.station.server.log)
      (put_broken own name row cells m short may.table may.known held free there seated (not_true may.seat.station.server.whole t.0)) (stays t.1 t.2)
  put_does (Err (NeedRoll size more limit)) t =
      let lacks : lacks_room own may.seat.station.server need m ≡ true = no_room _ _ _ _ size more used_same (length-spelling (put_entry own name row cells region seq)) t.1 t.2 t.3 in
      plan_refused own (put_plan own name row cells m) m new core' (refusal.NeedRoll may.seat.station.server.number size more)
      (put_need_roll own name row cells m short may.table may.known held free there seated (not_false may.seat.station.server.whole t.0) lacks
      ∙ (λ i. Some (refusal.NeedRoll may.seat.station.server.number ((capped_same (used own may.seat.station.server m) fits ∙ sym (t.1 ∙ used_same)) i) (sym (t.2 ∙ length-spelling (put_entry own name row cells region seq)) i))))
      (stays t.4 t.5)
  put_does (Err (StoreFault kind count)) t =
      let said : Reply = reply.StoreFault own kind count in
      let room : lacks_room own may.seat.station.server need m ≡ false = has_room _ _ _ _ used_same (length-spelling (put_entry own name row cells region seq)) t.2 in
      let self : list_any (is_site own call.Append) (site own call.Append ∷ []) ≡ true = rw (is_site_self own call.Append) refl in
      let answered : told (put_plan own name row cells m) said m ≡ answers said failed_state =
      subst (λ k. told (put_plan own name row cells m) (reply.StoreFault own k count) m ≡ answers (reply.StoreFault own k count) failed_state) (sym t.3)
      (put_failed own name row cells m short may.table may.known held free there seated count (not_false may.seat.station.server.whole t.1) room self) in
      let told_so : t.0.tickets ≡ waiting may.seat.station.server.live (tickets_of (may.seat.station.server.pending ++ waits None ∷ [])) =
      t.5 ∙ (may.seat.station.stands.tickets ∙ ap (waiting may.seat.station.server.live) (sym (tickets_pushed may.seat.station.server.pending (waits None)))) in
      does own (told (put_plan own name row cells m) said m) m failed_state new core' said answered
      (subst (Stands own new core') (sym state_failed) (stands_so false None t.0 (subst (IsHost new t.0) (log_torn (of own m).commits may.seat.station.server (waits None) _ (entry_is None)) t.4) told_so t.6))
      (beside_with own _ m)
      (flights_with own _ m)
  put_does (Err Memory) t = λ _. (t.0, t.1)

  -- the same, where memory tells the server, its log and the mark
  pub wrote : (r : Result (Unit {0}) LogError) (result : Result Reply CoreError) (marks s l : ℕ) → marks ≡ mark own
      → ((st : Station) → slice_get core.stations at ≡ Some st → s ≡ st.host.log.server) → ((st : Station) → slice_get core.stations at ≡ Some st → l ≡ st.host.log.number) → result ≡ put_reply own s l region seq ticket r
      → ((st : Station) (log : Log) → slice_get core.stations at ≡ Some st → IsHost old st.host log → TakesIn (record { region = region; seq = seq; kind = kind.Write (put_edit name row cells); marks = marks; origin = None }) (Some ticket) at st log old core new core' r)
      → Answers way own (event.Put own name row cells) m old core new core' result
  wrote r result marks s l mark_is server_is number_is told takes =
      let host = hosts old (of own m) core.stations may.seat.on at may.seat.station sealed in
      let server : s ≡ may.seat.station.server.number = server_is may.seat.station.station may.seat.station.there ∙ ap (λ (w : LogValue). w.server) host.writer.same in
      let log : l ≡ may.seat.station.server.log = number_is may.seat.station.station may.seat.station.there ∙ ap (λ (w : LogValue). w.number) host.writer.same in
      let taken : TakesIn (put_entry own name row cells region seq) (Some ticket) at may.seat.station.station (log_of (of own m).commits may.seat.station.server) old core new core' r =
      subst (λ k. TakesIn (record { region = region; seq = seq; kind = kind.Write (put_edit name row cells); marks = k; origin = None }) (Some ticket) at may.seat.station.station (log_of (of own m).commits may.seat.station.server) old core new core' r) mark_is
      (takes may.seat.station.station (log_of (of own m).commits may.seat.station.server) may.seat.station.there host) in
      subst (λ (x : Result Reply CoreError). Answers way own (event.Put own name row cells) m old core new core' x) (sym (told ∙ (λ i. put_reply own (server i) (log i) region seq ticket r))) (put_does r taken)

-- the host at a seat stands
pub seat_host : {way : Route} (own : Cluster) (old : Contents) (core : ClusterCore) (m : Machine) (name row : List ℕ) (region at : ℕ) → is_in way own ≡ true → Reached way m → HasSeat old (of own m) core.stations name row region at
    → (st : Station) → slice_get core.stations at ≡ Some st → HostStands old st.host
seat_host own old core m name row region at pair reached k st there =
    let same : k.station.station ≡ st = same_Some k.station.station st (sym k.station.there ∙ there) in
    subst (λ (x : Station). HostStands old x.host) same (log_of (of own m).commits k.station.server, hosts old (of own m) core.stations k.on at k.station (seat_is_open own pair m reached old core.stations name row region at k))

-- ---- counts of faults

pub put_told : (r : Result (Unit {0}) LogError) (own : Cluster) (server log region seq ticket : ℕ) (old new : Tally) → Blamed old new r → IfOk (put_reply own server log region seq ticket r) (λ (said : Reply). FaultTold own said old new)
put_told (Ok u) own server log region seq ticket old new b = tt
put_told (Err Broken) own server log region seq ticket old new b = tt
put_told (Err (NeedRoll told size limit)) own server log region seq ticket old new b = tt
put_told (Err (StoreFault kind count)) own server log region seq ticket old new b =
    let f = b.fault kind count refl in
    record { store_is = refl; kind = f.kind; count = f.count; rose = f.rose }
put_told (Err Memory) own server log region seq ticket old new b = tt

pub told_by : (result : Result Reply CoreError) (r : Result (Unit {0}) LogError) (own : Cluster) (server log region seq ticket : ℕ) (old new : Tally) → result ≡ put_reply own server log region seq ticket r → Blamed old new r → IfOk result (λ (said : Reply). FaultTold own said old new)
told_by result r own server log region seq ticket old new e b = subst (λ (x : Result Reply CoreError). IfOk x (λ (said : Reply). FaultTold own said old new)) (sym e) (put_told r own server log region seq ticket old new b)
