use Rattle.std.proofs.Common.{◌≡◌, take}
use Rattle.log_cleaner.specs.Needs.{needy_peer}
use Rattle.log_cleaner.proofs.sweep.needy_peer.Given as goal

abbrev pub invariant-loop-peer : goal.invariant-loop-peer
invariant-loop-peer l = l.lowest ≡ needy_peer l.log (take l.peer-index l.peers)
