use Rattle.std.proofs.Common.{◌≡◌, ◌++◌, drop}
use Rattle.peer_events.specs.Effects.{new_lines}
use Rattle.peer_events.proofs.additions.add_lines.Given as goal

abbrev pub invariant-loop-shelf : goal.invariant-loop-shelf
invariant-loop-shelf l = l.lines ++ new_lines l.form l.peer l.stations (drop l.shelf-index l.shelves) ≡ l.initial.lines ++ new_lines l.form l.peer l.stations l.shelves
