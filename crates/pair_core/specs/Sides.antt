-- What memory and both stores have to do with the machine's state.
use Rattle.std.specs.Prelude.{ℕ, ◌≡◌, ◌≤◌, true, List, [], map, length, Option, Some, None}
use Rattle.rep_types.specs.declared.ids.Cluster.{Cluster}
use Rattle.rep_types.specs.declared.ids.Cluster.TheVariants.{A, B, C}
use Rattle.rep_vault.specs.Contents.{Contents}
use Rattle.rep_vault.specs.Tallies.{Tally, total}
use Rattle.rep_model.specs.Words.{is_paired}
use Rattle.rep_model.specs.declared.machine.Machine.{Machine}
use Rattle.rep_model.specs.declared.machine.Commit.{Commit}
use Rattle.rep_model.specs.State as state
use Rattle.rep_model.specs.State.{Pair, other, empty_side}
use Rattle.region_meta.specs.Regions.{Map}
use Rattle.wal_entry.specs.Framed.{HasFrame}
use Rattle.std.specs.List.{AllByRecursion}
use Rattle.cluster_core.specs.declared.parts.ClusterCore.{ClusterCore}
use Rattle.cluster_core.specs.declared.parts.Sent.{Sent}
use Rattle.cluster_core.specs.Entries.{entry_of}
use Rattle.cluster_core.specs.Memory.{map_of}
use Rattle.cluster_core.specs.Stands.{Stands, empty_core}
use Rattle.cluster_core.specs.Does.{Reached, sent_of}
use Rattle.pair_core.specs.declared.sides.Sides.{Sides}

-- one thing of each of the two clusters
pub record Both (X : Type 0) : Type 0 where
  pub a : X
  pub b : X

-- a cluster of the pair in memory
abbrev pub core_of : Cluster → Sides → Option ClusterCore
core_of A sides = Some sides.a
core_of B sides = Some sides.b
core_of C sides = None

-- each cluster in memory and its store stand for its side, there is no third, the flights in memory are the machine's, and so many tickets were given
pub record AllStand (stores : Both Contents) (sides : Sides) (m : Machine) : Type 0 where
  pub a : Stands A stores.a sides.a m.a
  pub b : Stands B stores.b sides.b m.b
  pub third : m.c ≡ empty_side
  pub flights : sides.flights ≡ map (sent_of Pair) m.flights
  pub tickets : sides.tickets ≡ length m.tickets

-- what a cluster knows when an event comes to it: its own side, the regions of the other, whose commits have frames, the flights and how many tickets were given
pub record IsHere (own : Cluster) (c : Contents) (core : ClusterCore) (beside : Map) (flights : List Sent) (tickets : ℕ) (m : Machine) : Type 0 where
  pub reached : Reached Pair m
  pub paired : is_paired own ≡ true
  pub stands : Stands own c core (state.of own m)
  pub beside_is : beside ≡ map_of (state.of (other own) m)
  pub framed : AllByRecursion (λ (x : Commit). HasFrame (entry_of x)) (state.of (other own) m).commits
  pub flights_are : flights ≡ map (sent_of Pair) m.flights
  pub tickets_are : tickets ≡ length m.tickets

-- they do for a state that some legal run leads to
abbrev pub Standing : Both Contents → Sides → Type 0
Standing stores sides = (m : Machine) × Reached Pair m × AllStand stores sides m

-- nothing in either
abbrev pub empty_sides : Sides
empty_sides = record { a = empty_core A; b = empty_core B; flights = []; tickets = 0 }

-- a store has counted no fewer faults than were told of it
abbrev pub Covers : ℕ → Tally → Type 0
Covers told tally = told ≤ total tally.faults
