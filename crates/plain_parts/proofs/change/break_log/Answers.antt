use Rattle.std.proofs.Common.{sym}
use Rattle.rep_model.specs.State.{is_server}
use Rattle.rep_model.specs.LogEvents.{broken}
use Rattle.rep_model.proofs.Replacing.{changed-at, IfSome-absent}
use Rattle.plain_parts.proofs.change.break_log.Goals as goal

pub returns-in-Some : goal.returns-in-Some
returns-in-Some c =
    changed-at (is_server c.args.number) c.args.servers.now _ c.at_mut.result.now broken (sym c.in-Some.ensures) c.at_mut.ensures.value

pub returns-in_default : goal.returns-in_default
returns-in_default c = IfSome-absent (is_server c.args.number) c.args.servers.now _ (sym c.in_default.ensures)
