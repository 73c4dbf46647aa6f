use Rattle.std.proofs.Common.{ℕ, ◌≡◌, drop}
use Rattle.last_ids.specs.Ids.{last_of, IsRising}
use Rattle.queue_storage.specs.Ids.{AreKnown, pushed}
use Rattle.queue_storage.proofs.ids.set_known.Given as goal

abbrev pub invariant-loop-id : goal.invariant-loop-id
invariant-loop-id l = IsRising l.ids × AreKnown (drop l.id-index l.new) l.ids × ((r : ℕ) → pushed r (drop l.id-index l.new) (last_of r l.ids) ≡ pushed r l.new (last_of r l.initial.ids))
