use Rattle.std.proofs.Common.{rules, not}
use Rattle.std.proofs.lemmas.Fn.{filter_same}
use Rattle.shipper.specs.declared.queue.Outstanding.{Outstanding}
use Rattle.shipper.specs.Queues.{is_of}
use Rattle.shipper.proofs.queue.end.Goals as goal

pub returns : goal.returns
returns c =
    filter_same _ (λ (o : Outstanding). not (is_of c.args.queue.now o)) _ (λ o b f' called. search rules) _ _ c.retain.ensures.filtered
