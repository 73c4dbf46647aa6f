-- What is told of a store was counted there, and so was planned.
use Rattle.std.proofs.Common.{ℕ, ◌≤◌, List, Option, Some, None, arith}
use Rattle.std.specs.Prelude.{IfSome}
use Rattle.rep_types.specs.declared.ids.Cluster.{Cluster}
use Rattle.rep_types.specs.declared.record.Record.{Record}
use Rattle.rep_types.specs.declared.state.Call.{Call}
use Rattle.rep_vault.specs.Tallies.{Tally}
use Rattle.pair_core.specs.Told.{told_of, CountsTold}
use Rattle.script_text.specs.declared.command.Command.{Command}
use Rattle.script_runner.specs.Plans.{CountsFew, planned_for}
use Rattle.script_runner.specs.Told.{TellsFew}

upto : (a b c : ℕ) → a ≤ b → b ≤ c → a ≤ c
upto a b c h g = omega arith

-- no more are told than the commands plan
pub told-few : (c : Cluster) (cs : List Command) (journal : List Record) (t : Tally) → CountsTold c journal t → CountsFew c cs t → TellsFew c cs journal t
told-few c cs journal t told few k = by t.planned (few k)
  where
    by : (o : Option (Call → ℕ)) → IfSome o (λ _. t.faults k ≤ planned_for c k cs) → IfSome o (λ _. told_of c k journal ≤ planned_for c k cs)
    by None h = tt
    by (Some n) h = upto (told_of c k journal) (t.faults k) (planned_for c k cs) (told k) h
