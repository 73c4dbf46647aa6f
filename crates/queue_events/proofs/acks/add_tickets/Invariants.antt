use Rattle.std.proofs.Common.{◌≡◌, fold, take}
use Rattle.queue_events.specs.Acks.{put_in}
use Rattle.queue_events.proofs.acks.add_tickets.Given as goal

abbrev pub invariant-loop-ticket : goal.invariant-loop-ticket
invariant-loop-ticket l = l.acks.items ≡ fold put_in l.initial.acks.items (take l.ticket-index l.tickets)
