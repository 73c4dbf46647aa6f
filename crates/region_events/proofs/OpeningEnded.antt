-- The end of an opening: the region is On.
use Rattle.std.proofs.Common.{ℕ, ◌≡◌, true, List, [], ◌∷◌, ◌++◌, slice_get, Some, None, Ok, ap, sym, ◌∙◌, subst}
use Rattle.rep_types.specs.declared.ids.Cluster.{Cluster}
use Rattle.rep_types.specs.declared.state.PlaceOf.{PlaceOf}
use Rattle.rep_types.specs.declared.state.PlaceOf.TheVariants.{Opening, On}
use Rattle.rep_types.specs.declared.entry.Entry.{Entry}
use Rattle.rep_types.specs.declared.event.Event.TheVariants as event
use Rattle.rep_types.specs.declared.reply.Reply.TheVariants as reply
use Rattle.rep_vault.specs.Contents.{Contents}
use Rattle.region_meta.specs.Changes as change
use Rattle.rep_model.specs.State.{Route, of}
use Rattle.rep_model.specs.Words.{is_in}
use Rattle.rep_model.specs.Places.{is_gone}
use Rattle.rep_model.specs.LogEvents.{own_pending, emptied}
use Rattle.rep_model.specs.declared.machine.Machine.{Machine}
use Rattle.rep_model.specs.declared.machine.Side.{Side}
use Rattle.cluster_core.specs.declared.parts.ClusterCore.{ClusterCore}
use Rattle.cluster_core.specs.declared.parts.Station.{Station}
use Rattle.cluster_core.specs.Absorbing.{committed_side}
use Rattle.cluster_core.specs.Does.{Answers, Reached}
use Rattle.cluster_core.specs.Entering.{Enters}
use Rattle.cluster_core.specs.Memory.{server_at}
use Rattle.cluster_core.specs.Stands.{Stands}
use Rattle.cluster_core.specs.Texts.{place_text}
use Rattle.region_events.specs.declared.markers.Ending.TheVariants as ending
use Rattle.region_events.specs.Marks.{ends_at, kind_of, HasMarking, IsMarker}
use Rattle.region_events.proofs.Marked.{opens_is, number_is, there, log_same, marked}
use Rattle.region_events.proofs.Moving.{moved_side, region_moved}

module _ {way : Route} (own : Cluster) (old : Contents) (core : ClusterCore) (m : Machine) (r at : ℕ) (reached : Reached way m) (inside : is_in way own ≡ true) (stands : Stands own old core (of own m))
    (k : HasMarking (ends_at ending.Opens) own old core.stations r m at) (e : Entry) (is : IsMarker own core.index r (kind_of ending.Opens) e) (new : Contents) (core' : ClusterCore) (ks : List ℕ) where
  pub open_done : (core'' : ClusterCore) (s : ℕ) → ((st : Station) → slice_get core.stations at ≡ Some st → s ≡ st.host.log.server) → core'' ≡ record core' { map = change.placed r (On s) core'.map }
      → Enters own old core (of own m) k.station.server (own_pending own k.hosted.region (kind_of ending.Opens) None) new core' (Ok ks)
      → Answers way own (event.OpenEnd own r) m old core new core'' (Ok (reply.Marked e.seq ks))
  open_done core'' s server made q =
      let on : PlaceOf = On k.station.server.number in
      let committed : Side = committed_side k.station.server (emptied k.station.server) (k.station.server.pending ++ own_pending own k.hosted.region (kind_of ending.Opens) None ∷ []) (of own m) in
      let number : k.hosted.region.number ≡ r = number_is ending.Opens own old core m r at reached inside stands k in
      let opening : k.hosted.place ≡ Opening k.on = opens_is k.hosted.place k.on k.place in
      let at_server : on ≡ On k.on = ap (λ n. On n) k.station.number in
      let place : on ≡ On s = ap (λ n. On n) (sym (server k.station.station k.station.there ∙ log_same ending.Opens own old core m r at reached inside stands k)) in
      let is_core : record core' { map = change.placed k.hosted.region.number on core'.map } ≡ core'' = (λ i. record core' { map = change.placed (number i) (place i) core'.map }) ∙ sym made in
      marked ending.Opens own old core m r at reached inside stands k e is new new core' core'' ks q
      (subst (λ (w : ClusterCore). Stands own new w (moved_side on k.hosted committed)) is_core
      (region_moved own new core' committed q.3 k.hosted (there ending.Opens own old core m r at reached inside stands k) on
      (ap server_at at_server ∙ sym (ap server_at opening)) (ap place_text at_server ∙ sym (ap place_text opening)) (sym (ap is_gone opening)) (ap (λ (w : PlaceOf). change.next_place w on) opening)))
