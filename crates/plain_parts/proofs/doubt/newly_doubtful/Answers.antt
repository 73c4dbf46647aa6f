use Rattle.std.proofs.Common.{◌≡◌, ◌+◌, ◌<◌, ◌≤◌, [], ◌∷◌, ◌++◌, arith, cond, length, min, refl, ap, sym, ◌∙◌}
use Rattle.std.proofs.lemmas.List.{append-nil}
use Rattle.rep_model.specs.Tickets.{is_doubtful}
use Rattle.plain_parts.proofs.Newly.{newly-goes-on, newly-end}
use Rattle.plain_parts.proofs.doubt.newly_doubtful.Goals as goal
use Rattle.plain_parts.proofs.doubt.newly_doubtful.Goals.{then-is_newly_doubtful+in_ok-ticket_number+in_ok-push, else-is_newly_doubtful}

pub loop-at-preserved : goal.loop-at-preserved
loop-at-preserved c =
    let b = c.args.before.now in
    let a = c.args.after.now in
    let old : c.loop-at.at < length b = omega (arith, c.min-at-end.ensures) in
    let new : c.loop-at.at < length a = omega (arith, c.min-at-end.ensures) in
    let more : c.if-is_newly_doubtful.numbers ≡ cond c.is_newly_doubtful.result (c.loop-at.numbers ++ (c.loop-at.at + 1) ∷ []) c.loop-at.numbers =
    elim c.if-is_newly_doubtful.branch [ then-is_newly_doubtful+in_ok-ticket_number+in_ok-push w ↦ rw (w.if-is_newly_doubtful.true, w.numbers-is, w.in_ok-push.ensures.ok, w.in_ok-ticket_number.ensures) refl | else-is_newly_doubtful w ↦ rw (w.if-is_newly_doubtful.false, w.numbers-is) refl ] in
    newly-goes-on is_doubtful (c.loop-at.at + 1) c.loop-at.at b a _ _ c.is_newly_doubtful.result c.loop-at.numbers c.if-is_newly_doubtful.numbers _ old new c.is_newly_doubtful.ensures more c.loop-at.invariant

pub returns : goal.returns
returns c =
    let most : min (length c.args.before.now) (length c.args.after.now) ≤ c.loop-at.at = omega (arith, c.min-at-end.ensures) in
    sym (append-nil c.loop-at.numbers) ∙ ap (λ rest. c.loop-at.numbers ++ rest) (sym (newly-end is_doubtful _ c.loop-at.at c.args.before.now c.args.after.now most)) ∙ c.loop-at.invariant
