-- What memory says of a region, and of how many there are, is what the state says.
use Rattle.std.proofs.Common.{ℕ, suc, ◌-◌, ◌<◌, ◌≤◌, ◌≡◌, true, find, length, slice_get, Some, None, ap, sym, ◌∙◌, arith, eqb-true}
use Rattle.std.specs.Option.{option_map}
use Rattle.std.proofs.lemmas.List.{length-map}
use Rattle.std.proofs.lemmas.Option.{none-some, same_Some, slice_get_past}
use Rattle.rep_types.specs.declared.ids.Cluster.{Cluster}
use Rattle.rep_types.specs.declared.view.RegionLine.{RegionLine}
use Rattle.rep_vault.specs.Contents.{Contents}
use Rattle.region_meta.specs.Regions.{Map}
use Rattle.region_meta.specs.declared.region.Region.{Region}
use Rattle.rep_model.specs.State.{Route, of, is_region}
use Rattle.rep_model.specs.Words.{is_in}
use Rattle.rep_model.specs.declared.machine.Hosted.{Hosted}
use Rattle.rep_model.specs.declared.machine.Machine.{Machine}
use Rattle.rep_model.specs.declared.machine.Side.{Side}
use Rattle.rep_laws.proofs.Lists.{found_passes}
use Rattle.cluster_core.specs.declared.parts.ClusterCore.{ClusterCore}
use Rattle.cluster_core.specs.declared.parts.Trace.{Trace}
use Rattle.cluster_core.specs.Does.{Reached}
use Rattle.cluster_core.specs.Memory.{map_region, trace_of}
use Rattle.cluster_core.specs.Orderly.{AreNumbered}
use Rattle.cluster_core.specs.Stands.{Stands}
use Rattle.cluster_core.proofs.Lookups.{mapped_some, trace_found}
use Rattle.cluster_core.proofs.Places.{place_found}
use Rattle.cluster_core.proofs.Reaching.{orderly}
use Rattle.cluster_core.proofs.Tracing.{number_at}
use Rattle.pair_core.specs.InMemory.{traced_view}
use Rattle.pair_core.specs.Views.{region_view, region_seen}

pub counted : (own : Cluster) (c : Contents) (core : ClusterCore) (side : Side) → Stands own c core side → (count : ℕ) → count ≡ length core.map.regions → count ≡ length side.regions
counted own c core side stands count e = e ∙ (ap (λ (k : Map). length k.regions) stands.regions ∙ length-map side.regions map_region)

module _ (way : Route) (own : Cluster) (c : Contents) (core : ClusterCore) (m : Machine) (reached : Reached way m) (here : is_in way own ≡ true) (stands : Stands own c core (of own m)) (n : ℕ) where
  abbrev side : Side
  side = of own m

  slots : AreNumbered side.regions
  slots = (orderly own here m reached).numbered

  -- a region that stands has a trace
  traced : (h : Hosted) → find (is_region n) side.regions ≡ Some h → slice_get core.index.traces (n - 1) ≡ Some (trace_of side.commits side.servers h)
  traced h there =
      let w = place_found (is_region n) side.regions h there in
      let e : h.region.number ≡ suc w.0 = number_at side.regions slots w.0 h w.1 in
      let d : h.region.number ≡ n = eqb-true h.region.number n (found_passes (is_region n) side.regions h there) in
      let next : suc (n - 1) ≡ n = omega (arith, e, d) in
      trace_found core.index side stands.index slots (n - 1)
      ∙ ap (option_map (trace_of side.commits side.servers)) (ap (λ k. find (is_region k) side.regions) next ∙ there)

  pub has_trace : (r : Region) → Some r ≡ option_map map_region (find (is_region n) side.regions) → None ≡ slice_get core.index.traces (n - 1) → None ≡ region_seen own n side
  has_trace r e none =
      let h = mapped_some map_region (find (is_region n) side.regions) r e in
      absurd (none-some (trace_of side.commits side.servers h.0) (none ∙ traced h.0 h.1))

  pub traced_is_seen : (r : Region) (t : Trace) (view : RegionLine) → Some r ≡ option_map map_region (find (is_region n) side.regions) → Some t ≡ slice_get core.index.traces (n - 1) → view ≡ traced_view own r t
      → Some view ≡ region_seen own n side
  traced_is_seen r t view e f is =
      let h = mapped_some map_region (find (is_region n) side.regions) r e in
      let same : t ≡ trace_of side.commits side.servers h.0 = same_Some t (trace_of side.commits side.servers h.0) (f ∙ traced h.0 h.1) in
      ap (λ (v : RegionLine). Some v) (is ∙ (ap (λ (q : Region). traced_view own q t) h.2 ∙ ap (λ (q : Trace). traced_view own (map_region h.0) q) same))
      ∙ sym (ap (option_map (λ (g : Hosted). region_view own g side)) h.1)

  -- no region has a number above how many there are
  pub none_above : (count : ℕ) → count ≡ length core.map.regions → count < n → region_seen own n side ≡ None
  none_above count e above =
      let same : count ≡ length side.regions = counted own c core side stands count e in
      let next : suc (n - 1) ≡ n = omega (arith, above) in
      let past : length side.regions ≤ n - 1 = omega (arith, same, above) in
      ap (option_map (λ (h : Hosted). region_view own h side)) (ap (λ k. find (is_region k) side.regions) (sym next) ∙ (slots (n - 1) ∙ slice_get_past side.regions (n - 1) past))
