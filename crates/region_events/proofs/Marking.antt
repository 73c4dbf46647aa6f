-- The plan of a marker, by what memory tells of its region, and by the call that failed.
use Rattle.std.proofs.Common.{ℕ, ◌≡◌, ◌⊎◌, inl, inr, true, false, List, [], ◌∷◌, find, Option, Some, None, option_map, refl, ap, sym, ◌∙◌, subst}
use Rattle.std.specs.List.{list_any}
use Rattle.rep_types.specs.declared.ids.Cluster.{Cluster}
use Rattle.rep_types.specs.declared.ids.Cluster.TheVariants.{A, B, C}
use Rattle.rep_types.specs.declared.state.PlaceOf.{PlaceOf}
use Rattle.rep_types.specs.declared.entry.EntryKind.{EntryKind}
use Rattle.rep_types.specs.declared.state.Call.{Call}
use Rattle.rep_types.specs.declared.state.Call.TheVariants as call
use Rattle.rep_types.specs.declared.refusal.Refusal.TheVariants as refusal
use Rattle.rep_types.specs.declared.reply.Reply.{Reply}
use Rattle.rep_types.specs.declared.reply.Reply.TheVariants as reply
use Rattle.region_meta.specs.declared.region.Region.{Region as MapRegion}
use Rattle.rep_model.specs.State.{Route, of, is_server, is_region, region_of, server_of}
use Rattle.rep_model.specs.Places.{lacks_room}
use Rattle.rep_model.specs.LogEvents.{own_pending, synced_with}
use Rattle.rep_model.specs.Plan.{told}
use Rattle.rep_model.specs.Path.{refusal_of}
use Rattle.rep_model.specs.RegionEvents.{marker_plan, open_end_plan, close_end_plan}
use Rattle.rep_model.specs.declared.faults.Site.{Site}
use Rattle.rep_model.specs.Row.{answers, is_site, site}
use Rattle.rep_model.specs.Rows.{row}
use Rattle.rep_model.specs.declared.machine.Machine.{Machine}
use Rattle.rep_model.specs.declared.machine.Hosted.{Hosted}
use Rattle.rep_model.specs.declared.machine.Server.{Server}
use Rattle.rep_laws.proofs.CitingRows.{no_place, no_server}
use Rattle.cluster_core.specs.Memory.{map_region}
use Rattle.cluster_core.proofs.Lookups.{mapped_some}
use Rattle.region_events.specs.declared.markers.Ending.{Ending}
use Rattle.region_events.specs.declared.markers.Ending.TheVariants as ending
use Rattle.region_events.specs.Marks.{ends_at, ended, kind_of, last_sites, ending_event, ending_plan}

pub row_is : (way : Route) (w : Ending) (c : Cluster) (r : ℕ) (said : Reply) (m : Machine) → row way (ending_event w c r) said m ≡ told (ending_plan w c r m) said m
unfolding open_end_plan close_end_plan
row_is way ending.Opens c r said m = refl
row_is way ending.Closes c r said m = refl

-- a failed append or sync is among the marker's calls
pub is_call : (c : Cluster) (k : Call) → (k ≡ call.Append) ⊎ (k ≡ call.Sync) → list_any (is_site c k) (site c call.Append ∷ site c call.Sync ∷ []) ≡ true
is_call c k (inl e) = subst (λ j. list_any (is_site c j) (site c call.Append ∷ site c call.Sync ∷ []) ≡ true) (sym e) (by c)
  where
    by : (d : Cluster) → list_any (is_site d call.Append) (site d call.Append ∷ site d call.Sync ∷ []) ≡ true
    by A = refl
    by B = refl
    by C = refl
is_call c k (inr e) = subst (λ j. list_any (is_site c j) (site c call.Append ∷ site c call.Sync ∷ []) ≡ true) (sym e) (by c)
  where
    by : (d : Cluster) → list_any (is_site d call.Sync) (site d call.Append ∷ site d call.Sync ∷ []) ≡ true
    by A = refl
    by B = refl
    by C = refl

-- a failed put isn't, but is the call behind them
not_put : (c : Cluster) → list_any (is_site c call.Put) (site c call.Append ∷ site c call.Sync ∷ []) ≡ false
not_put A = refl
not_put B = refl
not_put C = refl

is_put : (c : Cluster) → list_any (is_site c call.Put) (site c call.Put ∷ []) ≡ true
is_put A = refl
is_put B = refl
is_put C = refl

-- the marker is committed, and then a call failed
failed_behind : (at : PlaceOf → Option ℕ) (goes : ℕ → PlaceOf) (k : EntryKind) (rest : List Site) (c : Cluster) (r : ℕ) (m : Machine) (h : Hosted) (s : ℕ) (srv : Server) → region_of c r m ≡ Some h
    → at h.place ≡ Some s → server_of c s m ≡ Some srv
    → srv.whole ≡ true → lacks_room c srv 32 m ≡ false → (j : Call) (n : ℕ) → list_any (is_site c j) (site c call.Append ∷ site c call.Sync ∷ []) ≡ false → list_any (is_site c j) rest ≡ true
    → told (marker_plan at goes k rest c r m) (reply.StoreFault c j n) m ≡ answers (reply.StoreFault c j n) (synced_with c srv (own_pending c h.region k None ∷ []) m)
failed_behind at goes k rest c r m h s srv known on there whole room j n before behind = rw (known, on, there, whole, room, before, behind) refl

pub put_failed : (c : Cluster) (r n : ℕ) (m : Machine) (h : Hosted) (s : ℕ) (srv : Server) → region_of c r m ≡ Some h → ends_at ending.Closes h.place ≡ Some s → server_of c s m ≡ Some srv
    → srv.whole ≡ true → lacks_room c srv 32 m ≡ false
    → told (ending_plan ending.Closes c r m) (reply.StoreFault c call.Put n) m
    ≡ answers (reply.StoreFault c call.Put n) (synced_with c srv (own_pending c h.region (kind_of ending.Closes) None ∷ []) m)
put_failed c r n m h s srv known on there whole room =
    failed_behind (ends_at ending.Closes) (ended ending.Closes) (kind_of ending.Closes) (last_sites ending.Closes c) c r m h s srv known on there whole room call.Put n (not_put c) (is_put c)

-- by the region that memory has
module _ (w : Ending) (c : Cluster) (r : ℕ) (m : Machine) (x : MapRegion) (found : Some x ≡ option_map map_region (find (is_region r) (of c m).regions)) where
  here : (h : Hosted) × (find (is_region r) (of c m).regions ≡ Some h) × (x ≡ map_region h)
  here = mapped_some map_region (find (is_region r) (of c m).regions) x found

  place_is : Some (refusal.WrongPlace here.0.place) ≡ Some (refusal.WrongPlace x.place)
  place_is = ap (λ (y : MapRegion). Some (refusal.WrongPlace y.place)) (sym here.2)

  pub wrong_by_place : None ≡ ends_at w x.place → refusal_of (ending_plan w c r m) ≡ Some (refusal.WrongPlace x.place)
  wrong_by_place e =
      no_place (ends_at w) (ended w) (kind_of w) (last_sites w c) c r m here.0 here.1 (ap (λ (y : MapRegion). ends_at w y.place) (sym here.2) ∙ sym e) ∙ place_is

  pub wrong_by_server : (s : ℕ) → Some s ≡ ends_at w x.place → find (is_server s) (of c m).servers ≡ None → refusal_of (ending_plan w c r m) ≡ Some (refusal.WrongPlace x.place)
  wrong_by_server s e none =
      no_server (ends_at w) (ended w) (kind_of w) (last_sites w c) c r m here.0 here.1 s (ap (λ (y : MapRegion). ends_at w y.place) (sym here.2) ∙ sym e) none ∙ place_is
