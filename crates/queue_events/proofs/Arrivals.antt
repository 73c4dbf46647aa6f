-- A form at its seat: what its append and the sync behind it leave of the state, memory and the store.
use Rattle.std.proofs.Common.{ℕ, ◌+◌, ◌-◌, ◌<◌, ◌≤◌, ◌≡◌, ◌&&◌, inl, inr, not, Bool, true, false, cond, List, [], ◌∷◌, ◌++◌, fold, find, slice_get, Option, Some, None, Result, Ok, Err, refl, ap, sym, ◌∙◌, subst, arith, le_refl, if◌then◌else◌}
use Rattle.std.specs.Prelude.{nat_lt}
use Rattle.std.specs.List.{AllByRecursion, list_any}
use Rattle.std.proofs.lemmas.Bool.Decides.{nat_tests}
use Rattle.std.proofs.lemmas.Option.{same_Some}
use Rattle.rep_types.specs.declared.ids.Cluster.{Cluster}
use Rattle.rep_types.specs.declared.ids.Cluster.TheVariants.{A, B, C}
use Rattle.rep_types.specs.declared.state.Call.TheVariants as call
use Rattle.rep_types.specs.declared.state.SyncState.TheVariants as sync
use Rattle.rep_types.specs.declared.state.Phase.TheVariants as phase
use Rattle.rep_types.specs.declared.entry.Entry.{Entry}
use Rattle.rep_types.specs.declared.entry.EntryKind.TheVariants as kind
use Rattle.rep_types.specs.declared.reply.Cause.{Cause}
use Rattle.rep_types.specs.declared.reply.Cause.TheVariants as cause
use Rattle.rep_vault.specs.Contents.{Contents}
use Rattle.wal_entry.specs.Length.{frame_length}
use Rattle.wal_entry.specs.Framed.{HasFrame}
use Rattle.wal_roll.specs.Log.{LogValue}
use Rattle.cluster_core.specs.declared.entering.EntryError.{EntryError}
use Rattle.cluster_core.specs.declared.entering.EntryError.TheVariants.{Broken, NeedRoll, StoreFault, Memory}
use Rattle.cluster_core.specs.Entering.{MayEnter, Enters}
use Rattle.region_server.specs.Host.{Stands as HostStands}
use Rattle.rep_model.specs.Keyed.{given}
use Rattle.rep_model.specs.State.{of, is_server}
use Rattle.rep_model.specs.Changes.{takes_pending}
use Rattle.rep_model.specs.Commits.{commit_count, pending_count}
use Rattle.rep_model.specs.Peers.{is_standby}
use Rattle.rep_model.specs.Places.{Seat, seat, located_number, capped, used, lacks_room}
use Rattle.rep_model.specs.Row.{site, is_site}
use Rattle.rep_model.specs.Tickets.{newly, is_acknowledged}
use Rattle.rep_model.specs.LogEvents.{emptied, broken_by, synced_with}
use Rattle.rep_model.specs.QueueEvents.{Delivery, arrival, arrives, comes, finds, fails_at, failing_by, stopped}
use Rattle.rep_model.specs.declared.faults.Failing.{Failing}
use Rattle.rep_model.specs.declared.faults.Site.{Site}
use Rattle.rep_model.specs.declared.machine.Machine.{Machine}
use Rattle.rep_model.specs.declared.machine.Form.{Form}
use Rattle.rep_model.specs.declared.machine.Link.{Link}
use Rattle.rep_model.specs.declared.machine.Pending.{Pending}
use Rattle.rep_model.specs.declared.machine.Server.{Server}
use Rattle.rep_model.specs.declared.machine.Side.{Side}
use Rattle.rep_model.specs.declared.machine.Ticket.{Ticket}
use Rattle.rep_model.specs.declared.machine.Told.TheVariants as told
use Rattle.rep_laws.proofs.Acts.{Served, act, EntryPends}
use Rattle.rep_laws.proofs.ActForms.{seat_served, synced_one}
use Rattle.rep_laws.proofs.DoesLogs.{seated}
use Rattle.rep_laws.proofs.Lists.{In, in_all, found_in, All_append, All_found}
use Rattle.rep_laws.proofs.PromisePart.{Promised, AllPromised, Rises, PromiseSide, promises_at}
use Rattle.rep_laws.proofs.Sides.{of_with, flights_with, tickets_with, told_after}
use Rattle.rep_laws.proofs.Slots.{ticket_of}
use Rattle.cluster_core.specs.declared.parts.ClusterCore.{ClusterCore}
use Rattle.cluster_core.specs.declared.parts.CoreError.{CoreError}
use Rattle.cluster_core.specs.declared.parts.Index.{Index}
use Rattle.cluster_core.specs.declared.parts.Station.{Station}
use Rattle.cluster_core.specs.Absorbing.{standing_so, committed_side}
use Rattle.cluster_core.specs.Accepting.{next_entry, IsNextId}
use Rattle.cluster_core.specs.Entries.{coming, tickets_of}
use Rattle.cluster_core.specs.Logs.{log_of}
use Rattle.cluster_core.specs.Lookups.{HasSeat}
use Rattle.cluster_core.specs.Orderly.{IsPlaced, ArePlaced, FitsLog}
use Rattle.cluster_core.specs.Stands.{Stands, waiting}
use Rattle.cluster_core.proofs.Accepted.{tickets_pushed}
use Rattle.cluster_core.proofs.Answering.{faulted}
use Rattle.cluster_core.proofs.Lookups.{seat_is}
use Rattle.cluster_core.proofs.Seats.{hosts}
use Rattle.cluster_core.proofs.Settling.{left_with, of_left, beside_left, flights_left, settled_left}
use Rattle.cluster_core.proofs.Simple.{beside_with}
use Rattle.cluster_core.proofs.Acknowledged.{plain_from, all_plain}
use Rattle.queue_events.specs.Acks.{put_in}
use Rattle.queue_events.specs.Arriving.{arriving_entry, MayArrive, IsMidway, Waited, Leaves, fault_of, fault_at, Arrives}
use Rattle.queue_events.specs.Entered.{arrived_by}
use Rattle.queue_events.specs.declared.arriving.Arrived.{Arrived}
use Rattle.queue_events.specs.declared.arriving.Arrived.TheVariants.{Stopped}
use Rattle.queue_events.proofs.Merging.{told_all, ascending, all_wait}
use Rattle.queue_events.proofs.Midway.{grown_same, grown_more, midway_next, seat_lives, seat_is_open, seat_dead, seat_place, seat_pending, seat_next}

-- ---- numbers

room_is : (v n : ℕ) → v + n ≤ 65536 → nat_lt 65536 (v + n) ≡ false
room_is v n h = grind (arith, nat_tests)

no_room : (v n x y : ℕ) → x ≡ v → y ≡ n → 65536 < x + y → nat_lt 65536 (v + n) ≡ true
no_room v n x y p q h = grind (arith, nat_tests)

capped_same : (n : ℕ) → n ≤ 65536 → capped n ≡ n
capped_same n h = omega arith

-- ---- faults that the row knows of

append_among : (c : Cluster) → list_any (is_site c call.Append) (site c call.Append ∷ site c call.Sync ∷ []) ≡ true
append_among A = refl
append_among B = refl
append_among C = refl

sync_among : (c : Cluster) → list_any (is_site c call.Sync) (site c call.Append ∷ site c call.Sync ∷ []) ≡ true
sync_among A = refl
sync_among B = refl
sync_among C = refl

pub append_fails : (c : Cluster) (n i : ℕ) → failing_by c i (cause.StoreFault c call.Append n) ≡ fault_at i (Some (cause.StoreFault c call.Append n))
unfolding given
append_fails c n i = ap (λ (o : Option Site). given o None (λ _. fault_at i (Some (cause.StoreFault c call.Append n)))) (faulted (site c call.Append ∷ site c call.Sync ∷ []) c call.Append n (append_among c))

pub sync_fails : (c : Cluster) (n i : ℕ) → failing_by c i (cause.StoreFault c call.Sync n) ≡ fault_at i (Some (cause.StoreFault c call.Sync n))
unfolding given
sync_fails c n i = ap (λ (o : Option Site). given o None (λ _. fault_at i (Some (cause.StoreFault c call.Sync n)))) (faulted (site c call.Append ∷ site c call.Sync ∷ []) c call.Sync n (sync_among c))

-- ---- where nothing is done

pub still : (own : Cluster) (c : Contents) (core : ClusterCore) (m : Machine) → IsMidway own m → Stands own c core (of own m) → Leaves own m [] m c core
still own c core m way stands = record { midway = way; stands = stands; beside = λ d n. refl; flights = refl; waited = λ before w. w; acks = λ before w. refl }

-- a synchronous peer's form
pub wrong_state : (own : Cluster) (c : Contents) (core : ClusterCore) (m : Machine) (peer : ℕ) (form : Form) → IsMidway own m → Stands own c core (of own m) → Arrives own peer true form m c core c core (Ok (Stopped (cause.WrongState sync.Absent phase.Idle)))
unfolding given
wrong_state own c core m peer form way stands = (
  m,
  λ i failed rest e. ap (λ (l : Link). cond (true && not (is_standby l.state)) (stopped m i (cause.WrongState l.state l.phase)) (finds peer form own i failed (seat own form.edit.table form.edit.row m) m rest)) stands.link,
  still own c core m way stands,
  λ i. refl,
)

-- a form whose row isn't served
pub not_served : (own : Cluster) (c : Contents) (core : ClusterCore) (m : Machine) (peer : ℕ) (form : Form) (table row : List ℕ) (r : ℕ) → table ≡ form.edit.table → row ≡ form.edit.row → IsMidway own m → Stands own c core (of own m)
    → seat own table row m ≡ None → r ≡ located_number own table row m → Arrives own peer false form m c core c core (Ok (Stopped (cause.NotServing r)))
unfolding given
not_served own c core m peer form table row r same_table same_row way stands none number = (
  m,
  λ i failed rest e. ap (λ (o : Option Seat). finds peer form own i failed o m rest) ((λ j. seat own (sym same_table j) (sym same_row j) m) ∙ none)
      ∙ ((λ j. stopped m i (cause.NotServing (located_number own (sym same_table j) (sym same_row j) m))) ∙ ap (λ n. stopped m i (cause.NotServing n)) (sym number)),
  still own c core m way stands,
  λ i. refl,
)

-- ---- tickets

waits_at : (own : Cluster) (ts : List Ticket) (live : Bool) (ps : List Pending) → live ≡ true → AllByRecursion (Promised own ts live) ps → (x : Pending) → In x ps → (k : ℕ) → x.ticket ≡ Some k → (1 ≤ k) × ((t : Ticket) × (slice_get ts (k - 1) ≡ Some t) × (t.told ≡ told.Pending))
waits_at own ts live ps lives a x i k e =
    let q = in_all (Promised own ts live) x ps i a k e in
    (q.0, (ticket_of own true, q.1 ∙ ap (λ b. Some (ticket_of own b)) lives, refl))

-- those of a live server's pending entries are acknowledged, where these are committed without a link
acknowledged : (own : Cluster) (m : Machine) (v : Server) → IsMidway own m → In v (of own m).servers → v.live ≡ true → (before : List Ticket) → Waited before m.tickets
    → Waited before (plain_from 1 (tickets_of v.pending) m.tickets) × (newly is_acknowledged 1 before (plain_from 1 (tickets_of v.pending) m.tickets) ≡ fold put_in (newly is_acknowledged 1 before m.tickets) (tickets_of v.pending))
acknowledged own m v way i lives before w =
    let promises : PromiseSide own (of own m).servers m.tickets = promises_at own m way.promises in
    let waits = waits_at own m.tickets v.live v.pending lives (in_all (AllPromised own m.tickets) v (of own m).servers i promises.promised) in
    told_all 1 (tickets_of v.pending) before m.tickets (le_refl 1)
    (ascending 1 v.pending (in_all (λ (u : Server). Rises u.pending) v (of own m).servers i promises.rising) (λ x j k e. (waits x j k e).0))
    (all_wait m.tickets v.pending (λ x j k e. (waits x j k e).1)) w

-- ---- the seat

module _ (own : Cluster) (old : Contents) (core : ClusterCore) (m : Machine) (form : Form) (peer region at seq : ℕ)
    (way : IsMidway own m) (stands : Stands own old core (of own m)) (k : HasSeat old (of own m) core.stations form.edit.table form.edit.row region at)
    (id : IsNextId core.index region seq) (framed : HasFrame (arriving_entry region seq peer form)) where
  abbrev there : Seat
  there = record { server = k.station.server; region = k.hosted.region }

  abbrev waits : Pending
  waits = arrival peer (record { server = k.station.server; region = k.hosted.region }) form

  sealed : k.station.server.sealed ≡ false
  sealed = seat_is_open own m way old core.stations form.edit.table form.edit.row region at k

  lives : k.station.server.live ≡ true
  lives = seat_lives own m way old core.stations form.edit.table form.edit.row region at k

  known : find (is_server k.station.server.number) (of own m).servers ≡ Some k.station.server
  known = subst (λ n. find (is_server n) (of own m).servers ≡ Some k.station.server) (sym k.station.number) k.station.known

  seq_is : seq ≡ commit_count k.hosted.region.number (of own m).commits + pending_count k.hosted.region.number k.station.server.pending + 1
  seq_is = seat_next own m way old core.stations form.edit.table form.edit.row region at k core.index seq stands.index id

  entry_is : arriving_entry region seq peer form ≡ next_entry (of own m).commits k.station.server.pending waits
  entry_is = λ i. record { region = sym k.number i; seq = seq_is i; kind = kind.Write form.edit; marks = form.marks; origin = Some (record { peer = peer; entry = form.source }) }

  its_place : IsPlaced (of own m).regions k.on k.hosted.region.number
  its_place = subst (IsPlaced (of own m).regions k.on) (sym k.number) (seat_place own m way old core.stations form.edit.table form.edit.row region at k)

  all_placed : ArePlaced (of own m).regions k.station.server.number (k.station.server.pending ++ waits ∷ [])
  all_placed =
      All_append (λ (q : Pending). IsPlaced (of own m).regions k.station.server.number q.region.number) k.station.server.pending (waits ∷ [])
      (seat_pending own m way old core.stations form.edit.table form.edit.row region at k)
      (subst (λ s. IsPlaced (of own m).regions s k.hosted.region.number) (sym k.station.number) its_place, tt)

  stays : (new : Contents) (core' : ClusterCore) → core' ≡ core → new ≡ old → Stands own new core' (of own m)
  stays new core' a b = subst (λ (w : ClusterCore). Stands own new w (of own m)) (sym a) (subst (λ (c : Contents). Stands own c core (of own m)) (sym b) stands)

  -- the entry may be appended there
  pub may_enter : MayEnter (of own m) k.on k.station.server waits (arriving_entry region seq peer form)
  may_enter = record { unsealed = sealed; entry = entry_is; ticket = refl; placed = its_place; framed = framed }

  -- ---- the row

  seated_is : seat own form.edit.table form.edit.row m ≡ Some there
  seated_is = seat_is old (of own m) core.stations form.edit.table form.edit.row region at k

  abbrev behind : ℕ → Option Failing → (Machine → Delivery) → Bool → Delivery
  behind i failed rest lacks =
      if lacks
      then stopped m i (cause.NeedRoll k.station.server.number (capped (used own k.station.server m)) (frame_length (kind.Write form.edit)))
      else comes peer form own i (fails_at failed i) (record { server = k.station.server; region = k.hosted.region }) m rest

  found_is : (i : ℕ) (failed : Option Failing) (rest : Machine → Delivery)
      → arrives peer false form own i failed m rest ≡ cond (not k.station.server.whole) (stopped m i (cause.Broken k.station.server.log)) (behind i failed rest (lacks_room own k.station.server (frame_length (kind.Write form.edit)) m))
  found_is i failed rest = ap (λ (o : Option Seat). finds peer form own i failed o m rest) seated_is

  open_is : not k.station.server.whole ≡ false → (i : ℕ) (failed : Option Failing) (rest : Machine → Delivery) → arrives peer false form own i failed m rest ≡ behind i failed rest (lacks_room own k.station.server (frame_length (kind.Write form.edit)) m)
  open_is whole i failed rest = found_is i failed rest ∙ ap (λ b. cond b (stopped m i (cause.Broken k.station.server.log)) (behind i failed rest (lacks_room own k.station.server (frame_length (kind.Write form.edit)) m))) whole

  room_is_there : not k.station.server.whole ≡ false → lacks_room own k.station.server (frame_length (kind.Write form.edit)) m ≡ false → (i : ℕ) (failed : Option Failing) (rest : Machine → Delivery)
      → arrives peer false form own i failed m rest ≡ comes peer form own i (fails_at failed i) there m rest
  room_is_there whole room i failed rest = open_is whole i failed rest ∙ ap (behind i failed rest) room

  fits : used own k.station.server m ≤ 65536
  fits = All_found (FitsLog (of own m).commits) (is_server k.station.server.number) (of own m).servers k.station.server known way.orderly.fits

  served : Served own m k.station.server k.hosted.region
  served = seat_served own form.edit.table form.edit.row m there seated_is

  titled : form.edit.table ≡ k.hosted.region.table.name
  titled = sym (seated own form.edit.table form.edit.row m there seated_is).name

  -- ---- a failed call

  abbrev failed_state : Machine
  failed_state = broken_by own k.station.server waits m

  failed_is : of own failed_state ≡ standing_so (takes_pending waits false k.station.server) (of own m)
  failed_is = of_with own (standing_so (takes_pending waits false k.station.server) (of own m)) m

  dead : k.station.server.sealed ≡ true → k.station.server.live ≡ false
  dead = seat_dead own m way old core.stations form.edit.table form.edit.row region at k

  failed_midway : used own k.station.server m + frame_length (kind.Write form.edit) ≤ 65536 → IsMidway own failed_state
  failed_midway room =
      midway_next own m failed_state (takes_pending waits false k.station.server) (of own m).commits (of own m).written way (act (EntryPends own way.inside k.station.server waits false served room refl titled)) failed_is
      (grown_same (of own m).commits) all_placed dead

  fails : (c : Contents) (w : ClusterCore) (why : Cause) → fault_of why ≡ Some why → ((i : ℕ) → failing_by own i why ≡ fault_at i (Some why)) → not k.station.server.whole ≡ false → used own k.station.server m + frame_length (kind.Write form.edit) ≤ 65536
      → Stands own c w (standing_so (takes_pending waits false k.station.server) (of own m)) → Arrives own peer false form m old core c w (Ok (Stopped why))
  unfolding given
  fails c w why fault among whole room left = (
    failed_state,
    λ i failed rest e. room_is_there whole (room_is (used own k.station.server m) (frame_length (kind.Write form.edit)) room) i failed rest ∙ ap (λ (o : Option Cause). comes peer form own i o there m rest) (e ∙ fault),
    record {
      midway = failed_midway room;
      stands = subst (Stands own c w) (sym failed_is) left;
      beside = beside_with own (standing_so (takes_pending waits false k.station.server) (of own m)) m;
      flights = flights_with own (standing_so (takes_pending waits false k.station.server) (of own m)) m;
      waited = λ before u. subst (Waited before) (sym (tickets_with own (standing_so (takes_pending waits false k.station.server) (of own m)) m)) u;
      acks = λ before u. ap (newly is_acknowledged 1 before) (tickets_with own (standing_so (takes_pending waits false k.station.server) (of own m)) m);
    },
    λ i. among i ∙ ap (fault_at i) (sym fault),
  )

  -- ---- what is committed

  abbrev done_side : Side
  done_side = committed_side k.station.server (emptied k.station.server) (k.station.server.pending ++ waits ∷ []) (of own m)

  abbrev done_tickets : List Ticket
  done_tickets = told_after own k.station.server.number k.station.server.log (k.station.server.pending ++ waits ∷ []) (standing_so (emptied k.station.server) (of own m)) m.tickets

  abbrev done_state : Machine
  done_state = synced_with own k.station.server (waits ∷ []) m

  done_is : done_state ≡ left_with own done_side done_tickets m
  done_is = settled_left own k.station.server (emptied k.station.server) (k.station.server.pending ++ waits ∷ []) m refl

  done_of : of own done_state ≡ done_side
  done_of = ap (of own) done_is ∙ of_left own done_side done_tickets m

  told_are : done_state.tickets ≡ plain_from 1 (tickets_of k.station.server.pending) m.tickets
  told_are =
      ap (λ (w : Machine). w.tickets) done_is
      ∙ (all_plain own k.station.server.number k.station.server.log (k.station.server.pending ++ waits ∷ []) (standing_so (emptied k.station.server) (of own m)) m.tickets stands.link
      ∙ ap (λ ks. plain_from 1 ks m.tickets) (tickets_pushed k.station.server.pending waits))

  done_midway : used own k.station.server m + frame_length (kind.Write form.edit) ≤ 65536 → IsMidway own done_state
  done_midway room =
      midway_next own m done_state (emptied k.station.server) done_side.commits done_side.written way (synced_one own way.inside k.station.server waits m served room refl titled) done_of
      (grown_more (of own m).commits (coming k.station.server.number k.station.server.log (of own m).commits (k.station.server.pending ++ waits ∷ []))) tt dead

  -- ---- by what became of the entry

  by_entry : (new : Contents) (core' : ClusterCore) (r : Result (List ℕ) EntryError) → Enters own old core (of own m) k.station.server waits new core' r → Arrives own peer false form m old core new core' (arrived_by own k.station.server.number k.station.server.log r)
  unfolding given
  by_entry new core' (Ok acks) t =
      let kept : acks ≡ tickets_of k.station.server.pending = t.2 ∙ ap (λ b. waiting b (tickets_of k.station.server.pending)) lives in
      let acked = acknowledged own m k.station.server way (found_in (is_server k.on) (of own m).servers k.station.server k.station.known) lives in (
        done_state,
        λ i failed rest e. room_is_there (ap not t.0) (room_is (used own k.station.server m) (frame_length (kind.Write form.edit)) t.1) i failed rest ∙ ap (λ (o : Option Cause). comes peer form own i o there m rest) e,
        record {
          midway = done_midway t.1;
          stands = subst (Stands own new core') (sym done_of) t.3;
          beside = λ d n. ap (of d) done_is ∙ beside_left own done_side done_tickets m d n;
          flights = ap (λ (n : Machine). n.flights) done_is ∙ flights_left own done_side done_tickets m;
          waited = λ before v. subst (Waited before) (sym told_are) (acked before v).0;
          acks = λ before v. ap (newly is_acknowledged 1 before) told_are ∙ ((acked before v).1 ∙ ap (fold put_in (newly is_acknowledged 1 before m.tickets)) (sym kept));
        },
      )
  by_entry new core' (Err Broken) t = (
    m,
    λ i failed rest e. found_is i failed rest ∙ ap (λ b. cond (not b) (stopped m i (cause.Broken k.station.server.log)) (behind i failed rest (lacks_room own k.station.server (frame_length (kind.Write form.edit)) m))) t.0,
    still own new core' m way (stays new core' t.1 t.2),
    λ i. refl,
  )
  by_entry new core' (Err (NeedRoll told size)) t =
      let lacks : lacks_room own k.station.server (frame_length (kind.Write form.edit)) m ≡ true = no_room (used own k.station.server m) (frame_length (kind.Write form.edit)) told size t.1 t.2 t.3 in
      let used_told : capped (used own k.station.server m) ≡ told = capped_same (used own k.station.server m) fits ∙ sym t.1 in (
        m,
        λ i failed rest e. open_is (ap not t.0) i failed rest ∙ (ap (behind i failed rest) lacks ∙ (λ j. stopped m i (cause.NeedRoll k.station.server.number (used_told j) (sym t.2 j)))),
        still own new core' m way (stays new core' t.4 t.5),
        λ i. refl,
      )
  by_entry new core' (Err (StoreFault call count)) t =
      fails new core' (cause.StoreFault own call count) refl
      (λ i. elim t.2 [
        | inl e ↦ subst (λ c. failing_by own i (cause.StoreFault own c count) ≡ fault_at i (Some (cause.StoreFault own c count))) (sym e) (append_fails own count i)
        | inr e ↦ subst (λ c. failing_by own i (cause.StoreFault own c count) ≡ fault_at i (Some (cause.StoreFault own c count))) (sym e) (sync_fails own count i)
      ])
      (ap not t.0) t.1 t.3
  by_entry new core' (Err (Memory changed)) t = t

  -- the same, where memory tells the server and its log
  pub taken : (new : Contents) (core' : ClusterCore) (r : Result (List ℕ) EntryError) (result : Result Arrived CoreError) (entry : Entry) (s l : ℕ) → entry ≡ arriving_entry region seq peer form
      → ((st : Station) → slice_get core.stations at ≡ Some st → s ≡ st.host.log.server) → ((st : Station) → slice_get core.stations at ≡ Some st → l ≡ st.host.log.number) → result ≡ arrived_by own s l r
      → (MayEnter (of own m) k.on k.station.server waits entry → Enters own old core (of own m) k.station.server waits new core' r) → Arrives own peer false form m old core new core' result
  taken new core' r result entry s l made server_is number_is told enters =
      let host = hosts old (of own m) core.stations k.on at k.station sealed in
      let server : s ≡ k.station.server.number = server_is k.station.station k.station.there ∙ ap (λ (w : LogValue). w.server) host.writer.same in
      let log : l ≡ k.station.server.log = number_is k.station.station k.station.there ∙ ap (λ (w : LogValue). w.number) host.writer.same in
      let t : Enters own old core (of own m) k.station.server waits new core' r = enters (subst (MayEnter (of own m) k.on k.station.server waits) (sym made) may_enter) in
      subst (λ (x : Result Arrived CoreError). Arrives own peer false form m old core new core' x) (sym (told ∙ (λ i. arrived_by own (server i) (log i) r))) (by_entry new core' r t)

-- the host at a seat stands
pub seat_host : (own : Cluster) (old : Contents) (core : ClusterCore) (m : Machine) (table row : List ℕ) (region at : ℕ) → IsMidway own m → HasSeat old (of own m) core.stations table row region at
    → (st : Station) → slice_get core.stations at ≡ Some st → HostStands old st.host
seat_host own old core m table row region at way k st got =
    let same : k.station.station ≡ st = same_Some k.station.station st (sym k.station.there ∙ got) in
    subst (λ (x : Station). HostStands old x.host) same (log_of (of own m).commits k.station.server, hosts old (of own m) core.stations k.on at k.station (seat_is_open own m way old core.stations table row region at k))

seq_least : (seq n : ℕ) → seq ≡ n + 1 → 1 ≤ seq
seq_least seq n e = omega arith

-- the entry that the form becomes has a frame
pub entry_framed : (form : Form) (peer region seq : ℕ) (index : Index) → MayArrive form → 1 ≤ peer → peer ≤ 4 → IsNextId index region seq → HasFrame (arriving_entry region seq peer form)
entry_framed form peer region seq index may least most id = may peer region seq least most id.least id.most (seq_least seq _ id.is) id.fits
