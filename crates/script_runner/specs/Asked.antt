-- What a command's events ask of the state in which it begins.
use Rattle.std.specs.Prelude.{ℕ, List, []}
use Rattle.rep_model.specs.declared.machine.Machine.{Machine}
use Rattle.script_text.specs.declared.command.Command.{Command}
use Rattle.script_text.specs.declared.command.Command.TheVariants as command
use Rattle.script_text.specs.Drains.{live_servers}

-- of a sync of all, the live servers
abbrev pub asked : Command → Machine → List ℕ
asked (command.SyncAll c) m = live_servers c m
asked _ m = []
