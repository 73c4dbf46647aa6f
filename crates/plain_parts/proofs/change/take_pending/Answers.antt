use Rattle.std.proofs.Common.{sym, ◌≡◌, refl}
use Rattle.rep_model.specs.State.{is_server}
use Rattle.rep_model.specs.LogEvents.{emptied}
use Rattle.rep_model.proofs.Replacing.{changed-at, IfSome-at, IfSome-absent}
use Rattle.plain_parts.proofs.change.take_pending.Goals as goal

pub returns-in_default-clause-list : goal.returns-in_default-clause-list
returns-in_default-clause-list c = IfSome-absent (is_server c.args.number) c.args.servers.now _ (sym c.in_default.ensures)

pub returns-in_default-clause-left : goal.returns-in_default-clause-left
returns-in_default-clause-left c = IfSome-absent (is_server c.args.number) c.args.servers.now _ (sym c.in_default.ensures)

pub returns-clause-list : goal.returns-clause-list
returns-clause-list c =
    rw c.replace.ensures.value (IfSome-at (is_server c.args.number) c.args.servers.now _ c.at_mut-server.result.now (λ x. c.at_mut-server.result.now.pending ≡ x.pending) (sym c.in-Some.ensures) c.at_mut-server.ensures.value refl)

pub returns-clause-left : goal.returns-clause-left
returns-clause-left c =
    rw (c.replace.ensures.after, c.new-2.ensures) (changed-at (is_server c.args.number) c.args.servers.now _ c.at_mut-server.result.now emptied (sym c.in-Some.ensures) c.at_mut-server.ensures.value)
