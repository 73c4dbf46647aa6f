use Rattle.std.proofs.Common.{◌≡◌, ◌++◌, drop}
use Rattle.queue_events.specs.Sending.{entry_forms}
use Rattle.queue_events.proofs.forming.entry_forms.Given as goal

abbrev pub invariant-loop-entry : goal.invariant-loop-entry
invariant-loop-entry l = l.made ++ entry_forms l.from l.to l.tables l.map (drop l.entry-index l.entries) ≡ entry_forms l.from l.to l.tables l.map l.entries
