-- A told fault is one of the entry that a form became.
use Rattle.std.proofs.Common.{ℕ, ◌≡◌, List, refl, sym, subst, Result, Ok, Err}
use Rattle.std.specs.Prelude.{IfOk}
use Rattle.rep_types.specs.declared.ids.Cluster.{Cluster}
use Rattle.rep_types.specs.declared.state.Call.{Call}
use Rattle.rep_vault.specs.Tallies.{Tally}
use Rattle.cluster_core.specs.declared.parts.CoreError.{CoreError}
use Rattle.cluster_core.specs.declared.entering.EntryError.{EntryError}
use Rattle.cluster_core.specs.declared.entering.EntryError.TheVariants.{Broken, NeedRoll, StoreFault, Memory}
use Rattle.wal_roll.specs.Blamed.{IsFault}
use Rattle.queue_events.specs.Arriving.{ArrivalTold}
use Rattle.queue_events.specs.Entered.{arrived_by}
use Rattle.queue_events.specs.declared.arriving.Arrived.{Arrived}

-- a fault of the entry is told of the cluster's own store
pub told_by : (own : Cluster) (server log : ℕ) (r : Result (List ℕ) EntryError) (result : Result Arrived CoreError) (old new : Tally) → result ≡ arrived_by own server log r
    → ((k : Call) (n : ℕ) → r ≡ Err (StoreFault k n) → IsFault k n old new) → IfOk result (λ a. ArrivalTold own a old new)
told_by own server log r result old new is fault = subst (λ (x : Result Arrived CoreError). IfOk x (λ a. ArrivalTold own a old new)) (sym is) (by r fault)
  where
    by : (q : Result (List ℕ) EntryError) → ((k : Call) (n : ℕ) → q ≡ Err (StoreFault k n) → IsFault k n old new) → IfOk (arrived_by own server log q) (λ a. ArrivalTold own a old new)
    by (Ok acks) f = tt
    by (Err Broken) f = tt
    by (Err (NeedRoll used need)) f = tt
    by (Err (StoreFault k n)) f = let b = f k n refl in record { store_is = refl; kind = b.kind; count = b.count; rose = b.rose }
    by (Err (Memory changed)) f = tt
