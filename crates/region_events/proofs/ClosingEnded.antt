-- The end of a closing: the region is Off, or its record couldn't be put.
use Rattle.std.proofs.Common.{ℕ, ◌<◌, ◌≤◌, ◌≡◌, ◌^◌, true, List, [], ◌∷◌, ◌++◌, find, Some, None, Ok, refl, ap, sym, ◌∙◌, subst, arith, eq-eqb}
use Rattle.std.proofs.lemmas.Option.{same_Some}
use Rattle.rep_types.specs.declared.ids.Cluster.{Cluster}
use Rattle.rep_types.specs.declared.state.PlaceOf.{PlaceOf}
use Rattle.rep_types.specs.declared.state.PlaceOf.TheVariants.{Off, Closing}
use Rattle.rep_types.specs.declared.state.Call.TheVariants as call
use Rattle.rep_types.specs.declared.entry.Entry.{Entry}
use Rattle.rep_types.specs.declared.event.Event.TheVariants as event
use Rattle.rep_types.specs.declared.reply.Reply.{Reply}
use Rattle.rep_types.specs.declared.reply.Reply.TheVariants as reply
use Rattle.rep_vault.specs.Contents.{Contents, with_records}
use Rattle.rep_vault.specs.declared.store.Change.{Change}
use Rattle.region_meta.specs.Changes as change
use Rattle.region_meta.specs.declared.region.Region.{Region as MapRegion}
use Rattle.rep_model.specs.Keyed.{given, replace}
use Rattle.rep_model.specs.State.{Route, of, is_server}
use Rattle.rep_model.specs.Words.{is_in}
use Rattle.rep_model.specs.Places.{is_gone}
use Rattle.rep_model.specs.LogEvents.{own_pending, emptied, synced_with}
use Rattle.rep_model.specs.declared.machine.Machine.{Machine}
use Rattle.rep_model.specs.declared.machine.Side.{Side}
use Rattle.rep_model.specs.declared.machine.Server.{Server}
use Rattle.rep_model.specs.declared.machine.Pending.{Pending}
use Rattle.rep_model.specs.declared.machine.Ticket.{Ticket}
use Rattle.rep_laws.proofs.Finding.{find_replaced}
use Rattle.rep_laws.proofs.Sides.{told_after}
use Rattle.cluster_core.specs.declared.parts.ClusterCore.{ClusterCore}
use Rattle.cluster_core.specs.Absorbing.{standing_so, committed_side}
use Rattle.cluster_core.specs.Does.{Answers, Reached}
use Rattle.cluster_core.specs.Entering.{Enters}
use Rattle.cluster_core.specs.Memory.{map_region, pending_at, server_at}
use Rattle.cluster_core.specs.Stands.{Stands}
use Rattle.cluster_core.proofs.Answering.{does}
use Rattle.cluster_core.proofs.Settling.{left_with, of_left, beside_left, flights_left, settled_left}
use Rattle.cluster_core.proofs.Tracing.{pending_was}
use Rattle.region_events.specs.declared.markers.Ending.TheVariants as ending
use Rattle.region_events.specs.Effects.{off_changes, IsOffRecord}
use Rattle.region_events.specs.Marks.{ends_at, kind_of, HasMarking, IsMarker}
use Rattle.region_events.proofs.Marking.{row_is, put_failed}
use Rattle.region_events.proofs.Marked.{closes_is, number_is, there, seated, mapped, has_space, marked}
use Rattle.region_events.proofs.Moving.{moved_side, region_put}

few : (n r : ℕ) → n ≡ r → r ≤ 4096 → n < 2 ^ 32
few n r e h = omega arith

-- nothing is pending of a region that is at no server, nor at one with an empty pending list
none_pending : (n s : ℕ) (srv : Server) (servers : List Server) (p : PlaceOf) → srv.number ≡ s → find (is_server s) servers ≡ Some srv → server_at p ≡ Some s
    → pending_at n (replace (is_server srv.number) (emptied srv) servers) None ≡ pending_at n (replace (is_server srv.number) (emptied srv) servers) (server_at p)
unfolding given
none_pending n s srv servers p number known at =
    let next : List Server = replace (is_server srv.number) (emptied srv) servers in
    let found : find (is_server s) next ≡ Some (emptied srv) = subst (λ j. find (is_server j) next ≡ Some (emptied srv)) number
    (find_replaced (is_server srv.number) (emptied srv) srv servers (eq-eqb srv.number srv.number refl) (ap (λ j. find (is_server j) servers) number ∙ known)) in
    sym (ap (pending_at n next) at ∙ pending_was n s (emptied srv) next found)

module _ {way : Route} (own : Cluster) (old : Contents) (core : ClusterCore) (m : Machine) (r at : ℕ) (reached : Reached way m) (inside : is_in way own ≡ true) (stands : Stands own old core (of own m))
    (k : HasMarking (ends_at ending.Closes) own old core.stations r m at)
    (mid new : Contents) (core' : ClusterCore) (ks : List ℕ) (q : Enters own old core (of own m) k.station.server (own_pending own k.hosted.region (kind_of ending.Closes) None) mid core' (Ok ks)) where
  abbrev waits : Pending
  waits = own_pending own k.hosted.region (kind_of ending.Closes) None

  abbrev committed : Side
  committed = committed_side k.station.server (emptied k.station.server) (k.station.server.pending ++ waits ∷ []) (of own m)

  closing : k.hosted.place ≡ Closing k.on
  closing = closes_is k.hosted.place k.on k.place

  pub close_done : (e : Entry) → IsMarker own core.index r (kind_of ending.Closes) e → (core'' : ClusterCore) (changes : List Change) → IsOffRecord core.map r changes → new ≡ with_records changes mid
      → core'' ≡ record core' { map = change.placed r Off core'.map }
      → Answers way own (event.CloseEnd own r) m old core new core'' (Ok (reply.Marked e.seq ks))
  close_done e is core'' changes off put made =
      let number : k.hosted.region.number ≡ r = number_is ending.Closes own old core m r at reached inside stands k in
      let region_same : off.region ≡ map_region k.hosted = same_Some off.region (map_region k.hosted) (sym off.found ∙ mapped ending.Closes own old core m r at reached inside stands k) in
      let is_core : record core' { map = change.placed k.hosted.region.number Off core'.map } ≡ core'' = (λ i. record core' { map = change.placed (number i) Off core'.map }) ∙ sym made in
      marked ending.Closes own old core m r at reached inside stands k e is mid new core' core'' ks q
      (subst (λ (w : ClusterCore). Stands own new w (moved_side Off k.hosted committed)) is_core
      (region_put own mid core' committed q.3 k.hosted (there ending.Closes own old core m r at reached inside stands k) Off
      (none_pending k.hosted.region.number k.on k.station.server (of own m).servers k.hosted.place k.station.number k.station.known (seated ending.Closes own old core m r at reached inside stands k))
      (sym (ap is_gone closing)) (ap (λ (w : PlaceOf). change.next_place w Off) closing) new (few k.hosted.region.number r number is.id.most)
      (put ∙ (ap (λ (cs : List Change). with_records cs mid) off.texts ∙ ap (λ (x : MapRegion). with_records (off_changes x) mid) region_same))))

  -- the record wasn't put: the marker is committed, and the region still closes

  abbrev tickets : List Ticket
  tickets = told_after own k.station.server.number k.station.server.log (k.station.server.pending ++ waits ∷ []) (standing_so (emptied k.station.server) (of own m)) m.tickets

  left_is : synced_with own k.station.server (waits ∷ []) m ≡ left_with own committed tickets m
  left_is = settled_left own k.station.server (emptied k.station.server) (k.station.server.pending ++ waits ∷ []) m refl

  pub close_left : (n : ℕ) → new ≡ mid → Answers way own (event.CloseEnd own r) m old core new core' (Ok (reply.StoreFault own call.Put n))
  close_left n same =
      let said : Reply = reply.StoreFault own call.Put n in
      does own _ m (synced_with own k.station.server (waits ∷ []) m) new core' said
      (row_is way ending.Closes own r said m ∙ put_failed own r n m k.hosted k.on k.station.server k.known k.place k.station.known q.0 (has_space ending.Closes own k.station.server m q.1))
      (subst (λ (w : Side). Stands own new core' w) (sym (ap (of own) left_is ∙ of_left own committed tickets m)) (subst (λ (c : Contents). Stands own c core' committed) (sym same) q.3))
      (λ d n. ap (of d) left_is ∙ beside_left own committed tickets m d n)
      (ap (λ (w : Machine). w.flights) left_is ∙ flights_left own committed tickets m)
