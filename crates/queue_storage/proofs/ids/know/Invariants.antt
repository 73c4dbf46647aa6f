use Rattle.std.proofs.Common.{◌≡◌, take}
use Rattle.last_ids.specs.Ids.{IsRising}
use Rattle.queue_storage.specs.Ids.{counting, AreKnown}
use Rattle.queue_storage.proofs.ids.know.Given as goal

abbrev pub invariant-loop-id : goal.invariant-loop-id
invariant-loop-id l = IsRising l.ids × (counting l.ids ≡ counting l.initial.ids) × AreKnown (take l.id-index l.new) l.ids
