use Rattle.std.proofs.Common.{ap, sym, drop}
use Rattle.rep_model.specs.Queues.{is_queued}
use Rattle.rep_model.specs.QueueEvents.{is_empty}
use Rattle.plain_parts.proofs.Heads.{filter-found, filter-absent}
use Rattle.plain_parts.proofs.queues.queue_is_empty.Goals as goal

pub returns-in-Some : goal.returns-in-Some
returns-in-Some c =
    let peer = c.args.peer.now in
    sym (ap is_empty (filter-found (is_queued peer c.args.server) (drop peer.start c.args.commits.now) c.in-Some.field-0.now (sym c.in-Some.ensures)).1)

pub returns-in-None : goal.returns-in-None
returns-in-None c =
    let peer = c.args.peer.now in
    sym (ap is_empty (filter-absent (is_queued peer c.args.server) (drop peer.start c.args.commits.now) (sym c.in-None.ensures)))
