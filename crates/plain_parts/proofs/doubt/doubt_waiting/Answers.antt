use Rattle.std.proofs.Common.{◌==◌, List, refl, ◌∙◌, length-set}
use Rattle.rep_model.specs.Tickets.{tell_waiting}
use Rattle.rep_model.specs.declared.machine.Ticket.{Ticket}
use Rattle.rep_model.specs.declared.machine.Told.TheVariants as told
use Rattle.rep_model.proofs.InPlace.{changed-next}
use Rattle.plain_parts.proofs.doubt.doubt_waiting.Goals as goal

pub loop-at-preserved : goal.loop-at-preserved
loop-at-preserved c =
    let ends = λ (ts : List Ticket). tell_waiting c.args.cluster (λ t log. t == c.args.server) (λ _. told.Doubtful) ts in
    let t = c.at_mut-ticket.result.now in
    let y : Ticket = record t { told = c.after_death-ticket.result } in
    let next = changed-next ends c.loop-at.tickets c.loop-at.at t y (λ _ _. refl) c.at_mut-ticket.ensures.value c.after_death-ticket.ensures in
    (next ∙ c.loop-at.invariant.0, length-set c.loop-at.tickets c.loop-at.at y ∙ c.loop-at.invariant.1)
