-- A legal journal keeps the laws.
use Rattle.std.proofs.Common.{List, map}
use Rattle.rep_types.specs.declared.record.Record.{Record}
use Rattle.rep_model.specs.Runs.{IsLegal, step_of}
use Rattle.rep_model.specs.State.{Pair}
use Rattle.rep_laws.proofs.Lawful.{serial_holds, quiet_holds, cycle_free_holds, kept_holds, fence_holds}
use Rattle.rep_laws.proofs.Settling.{settled_state}
use Rattle.script_runner.specs.Lawful.{IsLawful}

pub lawful : (journal : List Record) → IsLegal journal → IsLawful journal
lawful journal legal = record {
  serial = serial_holds Pair (map step_of journal) legal;
  quiet = quiet_holds Pair (map step_of journal) legal;
  cycle_free = cycle_free_holds Pair (map step_of journal) legal;
  kept = kept_holds (map step_of journal) legal;
  fenced = λ c. fence_holds (map step_of journal) legal c;
  settled = λ c pair. settled_state Pair (map step_of journal) c pair legal;
}
