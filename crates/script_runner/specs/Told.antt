-- How many faults of a store a journal may tell.
use Rattle.std.specs.Prelude.{◌≤◌, List, IfSome}
use Rattle.rep_types.specs.declared.ids.Cluster.{Cluster}
use Rattle.rep_types.specs.declared.record.Record.{Record}
use Rattle.rep_types.specs.declared.state.Call.{Call}
use Rattle.rep_vault.specs.Tallies.{Tally}
use Rattle.pair_core.specs.Told.{told_of}
use Rattle.script_text.specs.declared.command.Command.{Command}
use Rattle.script_runner.specs.Plans.{planned_for}

-- of a store that tells its plans no more faults of a kind of call are told than the commands have `fail` lines for it and that kind
abbrev pub TellsFew : Cluster → List Command → List Record → Tally → Type 0
TellsFew c commands journal t = (k : Call) → IfSome t.planned (λ _. told_of c k journal ≤ planned_for c k commands)
