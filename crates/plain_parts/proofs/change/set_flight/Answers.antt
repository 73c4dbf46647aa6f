use Rattle.std.proofs.Common.{sym, refl}
use Rattle.rep_model.specs.State.{is_queue}
use Rattle.rep_model.specs.declared.machine.Queue.{Queue}
use Rattle.rep_model.proofs.Replacing.{changed-or-same-at, same-absent}
use Rattle.plain_parts.proofs.change.set_flight.Goals as goal

pub returns-in-Some : goal.returns-in-Some
returns-in-Some c =
    changed-or-same-at (is_queue c.args.peer c.args.server) c.args.queues.now _ c.at_mut.result.now (λ (x : Queue). record x { flight = c.args.flight }) (sym c.in-Some.ensures) c.at_mut.ensures.value

pub returns-in_default : goal.returns-in_default
returns-in_default c =
    same-absent (is_queue c.args.peer c.args.server) c.args.queues.now c.args.queues.now (λ (x : Queue). record x { flight = c.args.flight }) (sym c.in_default.ensures) refl
