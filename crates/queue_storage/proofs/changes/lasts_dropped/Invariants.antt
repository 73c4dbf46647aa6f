use Rattle.std.proofs.Common.{◌≡◌, ◌++◌, map, take}
use Rattle.queue_storage.specs.Changes.{last_dropped}
use Rattle.queue_storage.specs.Ids.{counting}
use Rattle.queue_storage.proofs.changes.lasts_dropped.Given as goal

abbrev pub invariant-loop-id : goal.invariant-loop-id
invariant-loop-id l = l.changes.items ≡ l.initial.changes.items ++ map (last_dropped l.peer) (counting (take l.id-index l.ids))
