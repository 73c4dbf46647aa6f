use Rattle.std.proofs.Common.{◌≡◌, ◌+◌, ◌<◌, ◌≤◌, [], ◌∷◌, ◌++◌, arith, cond, length, min, refl, ap, sym, ◌∙◌}
use Rattle.std.proofs.lemmas.List.{append-nil}
use Rattle.rep_model.specs.Tickets.{is_acknowledged}
use Rattle.plain_parts.proofs.Newly.{newly-goes-on, newly-end}
use Rattle.plain_parts.proofs.tickets.newly_acknowledged.Goals as goal
use Rattle.plain_parts.proofs.tickets.newly_acknowledged.Goals.{then-is_new+in_ok-ticket_number+in_ok-push, else-is_new}

pub loop-at-preserved : goal.loop-at-preserved
loop-at-preserved c =
    let b = c.args.before.now in
    let a = c.args.after.now in
    let old : c.loop-at.at < length b = omega (arith, c.min-at-end.ensures) in
    let new : c.loop-at.at < length a = omega (arith, c.min-at-end.ensures) in
    let more : c.if-is_new.acks ≡ cond c.is_new.result (c.loop-at.acks ++ (c.loop-at.at + 1) ∷ []) c.loop-at.acks =
    elim c.if-is_new.branch [ then-is_new+in_ok-ticket_number+in_ok-push w ↦ rw (w.if-is_new.true, w.acks-is, w.in_ok-push.ensures.ok, w.in_ok-ticket_number.ensures) refl | else-is_new w ↦ rw (w.if-is_new.false, w.acks-is) refl ] in
    newly-goes-on is_acknowledged (c.loop-at.at + 1) c.loop-at.at b a _ _ c.is_new.result c.loop-at.acks c.if-is_new.acks _ old new c.is_new.ensures more c.loop-at.invariant

pub returns : goal.returns
returns c =
    let most : min (length c.args.before.now) (length c.args.after.now) ≤ c.loop-at.at = omega (arith, c.min-at-end.ensures) in
    sym (append-nil c.loop-at.acks) ∙ ap (λ rest. c.loop-at.acks ++ rest) (sym (newly-end is_acknowledged _ c.loop-at.at c.args.before.now c.args.after.now most)) ∙ c.loop-at.invariant
