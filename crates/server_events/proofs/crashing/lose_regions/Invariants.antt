use Rattle.std.proofs.Common.{◌≡◌, length}
use Rattle.server_events.specs.Crashes.{AreNumbered}
use Rattle.server_events.proofs.Losing.{IsLosing}
use Rattle.server_events.proofs.crashing.lose_regions.Given as goal

abbrev pub invariant-loop-at : goal.invariant-loop-at
invariant-loop-at l =
    (length l.map.regions ≡ length l.initial.map.regions)
    × (AreNumbered l.initial.map.regions → IsLosing l.server l.at l.map l.initial.map)
