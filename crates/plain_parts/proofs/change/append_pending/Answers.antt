use Rattle.std.proofs.Common.{sym}
use Rattle.rep_model.specs.State.{is_server}
use Rattle.rep_model.specs.Changes.{takes_pending}
use Rattle.rep_model.proofs.Replacing.{changed-at, IfSome-absent}
use Rattle.plain_parts.proofs.change.append_pending.Goals as goal

pub returns-in_default : goal.returns-in_default
returns-in_default c = IfSome-absent (is_server c.args.number) c.args.servers.now _ (sym c.in_default.ensures)

pub returns : goal.returns
returns c =
    rw c.in_ok-push.ensures.ok (changed-at (is_server c.args.number) c.args.servers.now _ c.at_mut-server.result.now (takes_pending c.args.pending c.args.whole) (sym c.in-Some.ensures) c.at_mut-server.ensures.value)
