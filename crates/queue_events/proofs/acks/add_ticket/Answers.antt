use Rattle.std.proofs.Common.{◌≡◌, ap, ◌∙◌, List, ℕ}
use Rattle.std.specs.Prelude.{insert}
use Rattle.std.specs.List.{position_or_len}
use Rattle.queue_events.specs.Acks.{is_above}
use Rattle.queue_events.proofs.Merging.{put_at}
use Rattle.queue_events.proofs.acks.add_ticket.Goals as goal

pub returns : goal.returns
returns c =
    let xs : List ℕ = c.args.acks.now.items in
    let k : ℕ = c.args.ticket in
    let at : c.place-at.result ≡ position_or_len (is_above k) xs = c.place-at.ensures.at ∙ ap (position_or_len (is_above k)) c.deref.ensures.value in
    c.in_ok-insert.ensures.items ∙ (ap (λ n. insert xs n k) at ∙ put_at xs k)
