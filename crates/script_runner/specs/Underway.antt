-- What stands of a script when so many of its commands were performed.
use Rattle.std.specs.Prelude.{ℕ, ◌≡◌, Bool, false, List, ◌++◌}
use Rattle.rep_types.specs.declared.ids.Cluster.TheVariants.{A, B}
use Rattle.rep_types.specs.declared.record.Record.{Record}
use Rattle.rep_model.specs.State.{opening}
use Rattle.rep_vault.specs.Tallies.{Tally}
use Rattle.script_text.specs.declared.command.Command.{Command}
use Rattle.script_text.specs.Due.{ExpandsFrom}
use Rattle.script_lines.specs.Lines.{lines}
use Rattle.script_runner.specs.Plans.{Planned}

-- the commands so far have these records and these lines
pub record Printed (commands : List Command) (records : List Record) (start text : List ℕ) : Type 0 where
  pub expands : ExpandsFrom opening commands records
  pub output : text ≡ start ++ lines commands records

-- what the commands leave of a pair, and of the sink what is said
pub record Left (commands : List Command) (got : List ℕ → Type 0) (journal : List Record) (spent : Bool) (a b : Tally) : Type 0 where
  pub expands : ExpandsFrom opening commands journal
  pub output : got (lines commands journal)
  pub usable : spent ≡ false
  pub planned_a : Planned A commands a
  pub planned_b : Planned B commands b
