use Rattle.std.proofs.Common.{◌≡◌, ◌++◌, map, take}
use Rattle.queue_storage.specs.Texts.{last_change}
use Rattle.queue_storage.proofs.changes.last_changes.Given as goal

abbrev pub invariant-loop-id : goal.invariant-loop-id
invariant-loop-id l = l.changes.items ≡ l.initial.changes.items ++ map (last_change l.peer) (take l.id-index l.ids)
