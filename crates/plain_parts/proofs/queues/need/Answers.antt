use Rattle.std.proofs.Common.{ap, sym, drop, ◌∙◌}
use Rattle.rep_model.specs.Queues.{is_queued, need}
use Rattle.plain_parts.proofs.Heads.{filter-found, filter-absent}
use Rattle.plain_parts.proofs.queues.need.Goals as goal

pub returns-in-Some : goal.returns-in-Some
returns-in-Some c =
    let peer = c.args.peer.now in
    let found = filter-found (is_queued peer c.args.server) (drop peer.start c.args.commits.now) c.in-Some.head.now (sym c.in-Some.ensures) in
    c.head_need.ensures ∙ sym (ap (need c.args.cluster peer c.args.commits.now) found.1)

pub returns-in-None : goal.returns-in-None
returns-in-None c =
    let peer = c.args.peer.now in
    sym (ap (need c.args.cluster peer c.args.commits.now) (filter-absent (is_queued peer c.args.server) (drop peer.start c.args.commits.now) (sym c.in-None.ensures)))
