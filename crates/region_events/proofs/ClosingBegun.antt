-- A region that begins to close.
use Rattle.std.proofs.Common.{ℕ, ◌≡◌, find, Option, Some, None, refl, ap, sym, ◌∙◌, subst, eqb-true}
use Rattle.std.specs.Prelude.{IsSome}
use Rattle.std.specs.Option.{option_map}
use Rattle.std.proofs.lemmas.Option.{same_Some, none-some}
use Rattle.rep_types.specs.declared.ids.Cluster.{Cluster}
use Rattle.rep_types.specs.declared.state.PlaceOf.{PlaceOf}
use Rattle.rep_types.specs.declared.state.PlaceOf.TheVariants.{Off, Opening, On, Closing, Lost, Gone}
use Rattle.rep_types.specs.declared.event.Event.TheVariants as event
use Rattle.rep_types.specs.declared.refusal.Refusal.TheVariants as refusal
use Rattle.rep_types.specs.declared.reply.Reply.TheVariants as reply
use Rattle.rep_vault.specs.Contents.{Contents}
use Rattle.region_meta.specs.Regions as meta
use Rattle.region_meta.specs.Changes as change
use Rattle.region_meta.specs.declared.region.Region.{Region as MapRegion}
use Rattle.rep_model.specs.Path.{refusal_of}
use Rattle.rep_model.specs.Plan.{told}
use Rattle.rep_model.specs.Rows.{row}
use Rattle.rep_model.specs.State.{Route, of, is_region, region_of, with_region}
use Rattle.rep_model.specs.Places.{is_gone, on_at}
use Rattle.rep_model.specs.Row.{answers}
use Rattle.rep_model.specs.RegionEvents.{moved, close_begin_plan}
use Rattle.rep_model.specs.declared.machine.Machine.{Machine}
use Rattle.rep_model.specs.declared.machine.Side.{Side}
use Rattle.rep_model.specs.declared.machine.Hosted.{Hosted}
use Rattle.rep_laws.proofs.Lists.{found_passes}
use Rattle.cluster_core.specs.declared.parts.ClusterCore.{ClusterCore}
use Rattle.cluster_core.specs.Does.{Does}
use Rattle.cluster_core.specs.Memory.{map_of, map_region, server_at}
use Rattle.cluster_core.specs.Stands.{Stands}
use Rattle.cluster_core.specs.Texts.{place_text}
use Rattle.cluster_core.proofs.Lookups.{region_of_map, mapped_some}
use Rattle.cluster_core.proofs.Simple.{does_with}
use Rattle.region_events.specs.Closing.{IsOn}
use Rattle.region_events.proofs.Moving.{moved_side, region_moved}

-- ---- where the region is

pub on_is : (p : PlaceOf) (s : ℕ) → Some s ≡ on_at p → p ≡ On s
on_is Off s e = absurd (none-some s (sym e))
on_is (Opening t) s e = absurd (none-some s (sym e))
on_is (On t) s e = ap (λ n. On n) (sym (same_Some s t e))
on_is (Closing t) s e = absurd (none-some s (sym e))
on_is (Lost t) s e = absurd (none-some s (sym e))
on_is Gone s e = absurd (none-some s (sym e))

pub is_there : (map : meta.Map) (r s : ℕ) → IsOn map r s → IsSome (meta.region_of r map)
is_there map r s on = by (meta.region_of r map) on
  where
    by : (o : Option MapRegion) → option_map (λ (x : MapRegion). x.place) o ≡ Some (On s) → IsSome o
    by None e = absurd (none-some (On s) e)
    by (Some x) e = refl

-- ---- why it doesn't begin to close

-- the place that memory has is that of the side
module _ (own : Cluster) (map : meta.Map) (r : ℕ) (m : Machine) (same : map ≡ map_of (of own m)) where
  abbrev regions : Option Hosted
  regions = find (is_region r) (of own m).regions

  places : option_map (λ (x : MapRegion). x.place) (meta.region_of r map) ≡ option_map (λ (h : Hosted). h.place) regions
  places = ap (option_map (λ (x : MapRegion). x.place)) (region_of_map r map (of own m) same) ∙ by regions
    where
      by : (o : Option Hosted) → option_map (λ (x : MapRegion). x.place) (option_map map_region o) ≡ option_map (λ (h : Hosted). h.place) o
      by None = refl
      by (Some h) = refl

  hosted : (p : PlaceOf) → Some p ≡ option_map (λ (x : MapRegion). x.place) (meta.region_of r map) → (h : Hosted) × (regions ≡ Some h) × (p ≡ h.place)
  hosted p have = mapped_some (λ (h : Hosted). h.place) regions p (have ∙ places)

  pub close_no_region : None ≡ option_map (λ (x : MapRegion). x.place) (meta.region_of r map) → refusal_of (close_begin_plan own r m) ≡ Some refusal.NoRegion
  unfolding close_begin_plan
  close_no_region none = let e : region_of own r m ≡ None = by regions (none ∙ places) in rw e refl
    where
      by : (o : Option Hosted) → None ≡ option_map (λ (h : Hosted). h.place) o → o ≡ None
      by None e = refl
      by (Some h) e = absurd (none-some h.place e)

  pub close_wrong : (p : PlaceOf) → Some p ≡ option_map (λ (x : MapRegion). x.place) (meta.region_of r map) → None ≡ on_at p → refusal_of (close_begin_plan own r m) ≡ Some (refusal.WrongPlace p)
  unfolding close_begin_plan
  close_wrong p have none =
      let h = hosted p have in
      let there : region_of own r m ≡ Some h.0 = h.1 in
      let nowhere : on_at h.0.place ≡ None = ap on_at (sym h.2) ∙ sym none in
      let wrong : Some (refusal.WrongPlace h.0.place) ≡ Some (refusal.WrongPlace p) = ap (λ (q : PlaceOf). Some (refusal.WrongPlace q)) (sym h.2) in
      rw (there, refusal_of, nowhere) wrong

-- ---- the event

row_is : (c : Cluster) (r : ℕ) (m : Machine) (h : Hosted) (s : ℕ) → region_of c r m ≡ Some h → on_at h.place ≡ Some s
    → told (close_begin_plan c r m) reply.Done m ≡ answers reply.Done (with_region c (moved (Closing s) h) m)
unfolding close_begin_plan
row_is c r m h s there on = rw (there, told, on) refl

module _ (way : Route) (own : Cluster) (c : Contents) (core : ClusterCore) (r : ℕ) (m : Machine) (stands : Stands own c core (of own m)) where
  pub close_done : (s : ℕ) (core' : ClusterCore) → IsOn core.map r s → core' ≡ record core { map = change.placed r (Closing s) core.map }
      → Does own (row way (event.CloseBegin own r) reply.Done m) m c core' reply.Done
  close_done s core' on made =
      let side : Side = of own m in
      let found = hosted own core.map r m stands.regions (On s) (sym on) in
      let h : Hosted = found.0 in
      let place : h.place ≡ On s = sym found.2 in
      let number_is : h.region.number ≡ r = eqb-true h.region.number r (found_passes (is_region r) side.regions h found.1) in
      let there : find (is_region h.region.number) side.regions ≡ Some h = ap (λ k. find (is_region k) side.regions) number_is ∙ found.1 in
      let left : Stands own c (record core { map = change.placed h.region.number (Closing s) core.map }) (moved_side (Closing s) h side) =
      region_moved own c core side stands h there (Closing s) (sym (ap server_at place)) (sym (ap place_text place)) (sym (ap is_gone place))
      (ap (λ (p : PlaceOf). change.next_place p (Closing s)) place) in
      does_with own _ m (moved_side (Closing s) h side) c core' reply.Done (row_is own r m h s found.1 (ap on_at place))
      (subst (λ (k : ClusterCore). Stands own c k (moved_side (Closing s) h side)) ((λ i. record core { map = change.placed (number_is i) (Closing s) core.map }) ∙ sym made) left)
