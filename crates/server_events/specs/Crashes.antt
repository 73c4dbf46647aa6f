-- Which server dies, and what its death leaves of memory.
use Rattle.std.specs.Prelude.{ℕ, ◌+◌, ◌≡◌, true, false, List, [], Some, map, slice_get}
use Rattle.rep_vault.specs.Contents.{Contents}
use Rattle.region_meta.specs.Regions.{Map}
use Rattle.region_meta.specs.Changes.{moved}
use Rattle.region_meta.specs.declared.region.Region.{Region}
use Rattle.rep_model.specs.Places.{after_death}
use Rattle.rep_model.specs.declared.machine.Side.{Side}
use Rattle.cluster_core.specs.declared.parts.Station.{Station}
use Rattle.cluster_core.specs.Lookups.{HasStation}

-- a server that lives
pub record MayDie (c : Contents) (side : Side) (stations : List Station) (s at : ℕ) : Type 0 where
  pub here : HasStation c side stations s at
  pub live : here.server.live ≡ true

-- the station of a dead server, whose tickets are given up
abbrev pub dead_station : Station → Station
dead_station st = record st { live = false; host = record st.host { tickets = [] } }

-- the region is where it is once the server has died
abbrev pub lost_region : ℕ → Region → Region
lost_region s r = moved (after_death s r.place) r

abbrev pub all_lost : ℕ → Map → Map
all_lost s m = record m { regions = map (lost_region s) m.regions }

-- regions are numbered from 1 in their order
abbrev pub AreNumbered : List Region → Type 0
AreNumbered rs = (k : ℕ) (r : Region) → slice_get rs k ≡ Some r → r.number ≡ k + 1
