-- What a run did.
use Rattle.std.specs.Prelude.{ℕ, List, Option, IfSome}
use Rattle.rep_types.specs.declared.ids.Cluster.TheVariants.{A, B}
use Rattle.rep_types.specs.declared.record.Record.{Record}
use Rattle.rep_model.specs.Runs.{IsLegal, state_of, faults_of}
use Rattle.rep_io.specs.Io.{Appends, AppendsPart}
use Rattle.rep_model.specs.State.{opening}
use Rattle.rep_vault.specs.Contents.{Contents}
use Rattle.rep_vault.specs.Tallies.{Tally}
use Rattle.pair_core.specs.Sides.{Both, Covers}
use Rattle.pair_core.specs.Stored.{Stored}
use Rattle.pair_core.specs.Told.{CountsTold}
use Rattle.script_text.specs.declared.command.Command.{Command}
use Rattle.script_text.specs.declared.command.Input.TheVariants.{Run}
use Rattle.script_text.specs.Lines.{lines_of}
use Rattle.script_text.specs.Grammar.{IsScript}
use Rattle.script_text.specs.Due.{ExpandsFrom}
use Rattle.script_lines.specs.Lines.{lines}
use Rattle.script_runner.specs.Lawful.{IsLawful}
use Rattle.script_runner.specs.Plans.{CountsFew}
use Rattle.script_runner.specs.Told.{TellsFew}

-- A legal journal of all the events of these commands, which keeps the laws, and of which the sink got what is said. The stores hold
-- what the state after it has in logs and records, and count of each kind of call no fewer faults than its records tell and, where they
-- tell their plans, no more than the commands plan: there a record that tells a fault has a `fail` line for its store and kind of call.
pub record Performed (commands : List Command) (got : List ℕ → Type 0) (stores : Both Contents) (tallies : Both Tally) : Type 0 where
  pub journal : List Record
  pub expands : ExpandsFrom opening commands journal
  pub legal : IsLegal journal
  pub lawful : IsLawful journal
  pub output : got (lines commands journal)
  pub stored : Stored stores (state_of journal)
  pub covers_a : Covers (faults_of journal A) tallies.a
  pub covers_b : Covers (faults_of journal B) tallies.b
  pub counts_a : CountsTold A journal tallies.a
  pub counts_b : CountsTold B journal tallies.b
  pub few_a : CountsFew A commands tallies.a
  pub few_b : CountsFew B commands tallies.b
  pub told_a : TellsFew A commands journal tallies.a
  pub told_b : TellsFew B commands journal tallies.b

-- the script, where its text is told, was performed, and the sink grew by its lines
pub record Ran (text old new : Option (List ℕ)) (stores : Both Contents) (tallies : Both Tally) : Type 0 where
  pub commands : List Command
  pub script : IfSome text (λ bytes. IsScript Run (lines_of bytes) commands)
  pub performed : Performed commands (Appends old new) stores tallies

-- the script was performed, and the sink grew by first bytes of these lines
pub record RanInPart (text old new : Option (List ℕ)) (stores : Both Contents) (tallies : Both Tally) : Type 0 where
  pub commands : List Command
  pub script : IfSome text (λ bytes. IsScript Run (lines_of bytes) commands)
  pub performed : Performed commands (AppendsPart old new) stores tallies
