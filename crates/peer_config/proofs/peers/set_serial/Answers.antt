use Rattle.std.proofs.Common.{sym}
use Rattle.peer_config.specs.Peers.{as_serial}
use Rattle.peer_config.proofs.Changing.{changed-at, changed-none}
use Rattle.peer_config.proofs.peers.set_serial.Goals as goal

pub returns-in-Some : goal.returns-in-Some
returns-in-Some c = changed-at c.args.peer as_serial c.args.peers.now c.in-Some.at _ (sym (rw c.as_slice.ensures at c.in-Some.ensures)) c.at_mut.ensures.value

pub returns-in-None : goal.returns-in-None
returns-in-None c = changed-none c.args.peer as_serial c.args.peers.now (sym (rw c.as_slice.ensures at c.in-None.ensures))
