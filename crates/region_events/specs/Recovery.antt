-- What a recovery leaves of memory, and the record that it puts.
use Rattle.std.specs.Prelude.{ℕ, ◌-◌, ◌^◌, ◌<◌, ◌≡◌, List, [], ◌∷◌, Some, slice_get}
use Rattle.rep_types.specs.declared.state.PlaceOf.TheVariants as place
use Rattle.rep_vault.specs.declared.store.Change.{Change}
use Rattle.region_meta.specs.Regions.{region_of}
use Rattle.region_meta.specs.Changes.{placed}
use Rattle.region_meta.specs.declared.region.Region.{Region}
use Rattle.cluster_core.specs.declared.parts.Trace.{Trace}
use Rattle.cluster_core.specs.declared.parts.ClusterCore.{ClusterCore}
use Rattle.cluster_core.specs.Texts.{OfRegion, region_text}
use Rattle.cluster_core.specs.Changes.{setting}
use Rattle.cluster_core.specs.Absorbing.{change_at}

-- all commits are flushed
abbrev pub recovered_trace : Trace → Trace
recovered_trace t = record t { flushed = t.commits }

-- the region is Off, and all of its commits are flushed
abbrev pub with_recovered : ℕ → ClusterCore → ClusterCore
with_recovered r core = record core {
  map = placed r place.Off core.map;
  index = record core.index { traces = change_at recovered_trace (r - 1) core.index.traces };
}

-- the record of a region that is Off
abbrev pub recovery_changes : Region → List Change
recovery_changes x = setting (OfRegion x.number) (region_text x.table x.low x.high place.Off x.parents) ∷ []

-- so many of the region's commits are flushed, and the record is that of the recovery
pub record IsPrepared (core : ClusterCore) (r flushed : ℕ) (changes : List Change) : Type 0 where
  pub few : r < 2 ^ 32
  pub region : Region
  pub found : region_of r core.map ≡ Some region
  pub trace : Trace
  pub there : slice_get core.index.traces (r - 1) ≡ Some trace
  pub before : flushed ≡ trace.flushed
  pub texts : changes ≡ recovery_changes region
