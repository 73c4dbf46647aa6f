-- The laws of replication, of one journal.
use Rattle.std.specs.Prelude.{◌≡◌, true, false, List, map}
use Rattle.rep_types.specs.declared.ids.Cluster.{Cluster}
use Rattle.rep_types.specs.declared.record.Record.{Record}
use Rattle.rep_model.specs.Order.{IsSerial}
use Rattle.rep_model.specs.Promises.{IsKept, IsFenced}
use Rattle.rep_model.specs.Quiet.{IsQuiet}
use Rattle.rep_model.specs.Cycles.{IsCycleFree}
use Rattle.rep_model.specs.Runs.{step_of, state_of}
use Rattle.rep_model.specs.State.{Pair, opening}
use Rattle.rep_model.specs.Words.{is_paired}
use Rattle.rep_laws.specs.Holds.{HoldsAfterEach}
use Rattle.rep_laws.specs.Settled.{IsSettled}

pub record IsLawful (journal : List Record) : Type 0 where
  -- after each record each row's lineage has arrived at each serial peer as a beginning of its source's order
  pub serial : HoldsAfterEach Pair (IsSerial Pair) opening (map step_of journal)
  -- after each record repeats change no cell of which no two puts have one timestamp
  pub quiet : HoldsAfterEach Pair (IsQuiet Pair) opening (map step_of journal)
  -- after each record no write came to a cluster by way of itself, and its marks are the clusters on its way
  pub cycle_free : HoldsAfterEach Pair (IsCycleFree Pair) opening (map step_of journal)
  -- at each end of a promotion each write that was acknowledged as synchronous is written
  pub kept : IsKept opening (map step_of journal)
  -- from a promotion's rename until the next folder no mirror of the other cluster is answered
  pub fenced : (c : Cluster) → IsFenced c false (map step_of journal)
  -- each cluster hangs together after the last record
  pub settled : (c : Cluster) → is_paired c ≡ true → IsSettled c (state_of journal)
