use Rattle.std.proofs.Common.{◌≡◌, ◌++◌, drop}
use Rattle.server_events.specs.Effects.{server_lines}
use Rattle.server_events.proofs.lines.add_lines.Given as goal

abbrev pub invariant-loop-peer : goal.invariant-loop-peer
invariant-loop-peer l = l.lines ++ server_lines l.form l.server (drop l.peer-index l.peers) ≡ l.initial.lines ++ server_lines l.form l.server l.peers
