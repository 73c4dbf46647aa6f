-- What events of tables and regions leave of memory.
use Rattle.std.specs.Prelude.{ℕ, ◌+◌, ◌-◌, ◌^◌, ◌<◌, ◌≤◌, ◌≡◌, List, [], ◌∷◌, ◌++◌, None, Some, slice_get}
use Rattle.std.specs.Option.{ForSome}
use Rattle.rep_types.specs.declared.table.Family.{Family}
use Rattle.region_barriers.specs.History.{last_barrier}
use Rattle.rep_types.specs.declared.state.PlaceOf.TheVariants as place
use Rattle.rep_vault.specs.declared.store.Change.{Change}
use Rattle.region_meta.specs.Regions.{Map, region_of}
use Rattle.region_meta.specs.Changes.{table_added, placed}
use Rattle.region_meta.specs.declared.region.Region.{Region}
use Rattle.rep_model.specs.RegionEvents.{with_barrier}
use Rattle.cluster_core.specs.declared.parts.Trace.{Trace}
use Rattle.cluster_core.specs.declared.parts.TableCells.{TableCells}
use Rattle.cluster_core.specs.declared.parts.ClusterCore.{ClusterCore}
use Rattle.cluster_core.specs.Texts.{OfRegion, OfBarriers, region_text, barriers_text}
use Rattle.cluster_core.specs.Changes.{setting}
use Rattle.cluster_core.specs.Absorbing.{change_at}

-- of a new region
abbrev pub first_trace : Trace
first_trace = record { commits = 0; pending = 0; flushed = 0; barriers = record { parents = []; barriers = []; final_barrier = None } }

-- of a new table
abbrev pub no_cells : List ℕ → TableCells
no_cells name = record { name = name; store = [] }

-- the table and its first region stand behind the others
abbrev pub with_table : List ℕ → List Family → ClusterCore → ClusterCore
with_table name families core = record core {
  map = table_added name families core.map;
  index = record core.index { traces = core.index.traces ++ first_trace ∷ []; cells = core.index.cells ++ no_cells name ∷ [] };
}

-- an opening's barrier stands behind the others, once where it comes again
abbrev pub opened_trace : ℕ → Trace → Trace
opened_trace n t = record t { barriers = record t.barriers { barriers = with_barrier n t.barriers.barriers } }

-- the region is Opening at the server, with this barrier
abbrev pub with_opening : ℕ → ℕ → ℕ → ClusterCore → ClusterCore
with_opening r s n core = record core {
  map = placed r (place.Opening s) core.map;
  index = record core.index { traces = change_at (opened_trace n) (r - 1) core.index.traces };
}

-- the records of a region that opens at the server, and of its barriers
abbrev pub opening_changes : ℕ → List ℕ → Region → List Change
opening_changes s barriers x =
    setting (OfRegion x.number) (region_text x.table x.low x.high (place.Opening s) x.parents)
    ∷ setting (OfBarriers x.number) (barriers_text barriers 0)
    ∷ []

-- the barrier is one more than the region's commits, and the records are those of the opening
pub record IsPrepared (core : ClusterCore) (r s n : ℕ) (changes : List Change) : Type 0 where
  pub few : r < 2 ^ 32
  pub region : Region
  pub found : region_of r core.map ≡ Some region
  pub trace : Trace
  pub there : slice_get core.index.traces (r - 1) ≡ Some trace
  pub barrier : n ≡ trace.commits + 1
  pub texts : changes ≡ opening_changes s (with_barrier n trace.barriers.barriers) region

-- the last barrier of the region with the trace at this place isn't above this one
abbrev pub Reaches : ℕ → ℕ → List Trace → Type 0
Reaches n k traces = (t : Trace) → slice_get traces k ≡ Some t → ForSome (last_barrier t.barriers) (λ last. last ≤ n)

-- the record of a region that is Off
abbrev pub off_changes : Region → List Change
off_changes x = setting (OfRegion x.number) (region_text x.table x.low x.high place.Off x.parents) ∷ []

pub record IsOffRecord (map : Map) (r : ℕ) (changes : List Change) : Type 0 where
  pub region : Region
  pub found : region_of r map ≡ Some region
  pub texts : changes ≡ off_changes region
