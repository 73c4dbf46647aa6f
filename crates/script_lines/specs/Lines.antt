-- The printed lines of a script, from its commands and the journal of their events.
use Rattle.std.specs.Prelude.{ℕ, ◌+◌, List, [], ◌∷◌, ◌++◌, length, drop, is_some, if◌then◌else◌}
use Rattle.rep_types.specs.declared.record.Record.{Record}
use Rattle.rep_model.specs.Keyed.{given}
use Rattle.rep_model.specs.State.{opening}
use Rattle.rep_model.specs.declared.machine.Machine.{Machine}
use Rattle.report_text.specs.DrainLine.{drain_text}
use Rattle.report_text.specs.Lines.{lines_from}
use Rattle.script_text.specs.declared.command.Command.{Command}
use Rattle.script_text.specs.declared.command.Command.TheVariants as command
use Rattle.script_text.specs.Drains.{start, drain_end}
use Rattle.script_text.specs.Due.{after_records, due, walked}
use Rattle.script_lines.specs.Views.{view_text}

-- behind its records so far, the command's own among these: as long as an event of it is due
abbrev pub own_of : Command → Machine → List Record → List Record → List Record
own_of c m before [] = []
own_of c m before (r ∷ rs) = if is_some (due c m before) then r ∷ own_of c m (before ++ r ∷ []) rs else []

-- the last line of a drain, which began in this state and has these records
abbrev pub end_text : Command → Machine → List Record → List ℕ
end_text command.Drain m own = given (drain_end (after_records m own) (walked m (start m) own)) [] drain_text
end_text _ m own = []

-- the lines of a command that began in this state, after so many records, and has these of its own: theirs with the
-- cells that they show, then the view of the state after them, or the drain's last line
abbrev pub command_text : Command → ℕ → Machine → List Record → List ℕ
command_text c before m own =
    lines_from (before + 1) own ++ (view_text c (before + length own) (after_records m own) ++ end_text c m own)

-- the lines of commands that begin in this state, after so many records, and have these
abbrev pub lines_after : ℕ → Machine → List Command → List Record → List ℕ
lines_after before m [] records = []
lines_after before m (c ∷ cs) records =
    let own = own_of c m [] records in
    command_text c before m own ++ lines_after (before + length own) (after_records m own) cs (drop (length own) records)

-- the lines of a script
unfoldable pub lines : List Command → List Record → List ℕ
lines commands journal = lines_after 0 opening commands journal
