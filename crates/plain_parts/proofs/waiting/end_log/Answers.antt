use Rattle.std.proofs.Common.{◌==◌, ◌&&◌, List, refl, ◌∙◌, arith}
use Rattle.std.proofs.lemmas.Grind.{common_steps}
use Rattle.rep_model.specs.Tickets.{tell_waiting}
use Rattle.rep_model.specs.declared.machine.Ticket.{Ticket}
use Rattle.rep_model.specs.declared.machine.Told.TheVariants as told
use Rattle.rep_model.proofs.InPlace.{changed-next}
use Rattle.plain_parts.proofs.waiting.end_log.Goals as goal

pub loop-at-preserved : goal.loop-at-preserved
loop-at-preserved c =
    let l = c.loop-at in
    let tell = λ (ts : List Ticket). tell_waiting c.args.cluster (λ s k. (s == c.args.server) && (k == c.args.log)) (λ x. told.Synchronous x) ts in
    (changed-next tell l.tickets l.at c.at_mut-ticket.result.now _ (λ z zs. refl) c.at_mut-ticket.ensures.value c.mirrored-ticket.ensures ∙ l.invariant.0, grind (arith, common_steps, l.invariant.1))
