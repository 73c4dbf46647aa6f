use Rattle.std.proofs.Common.{List, set, subst}
use Rattle.last_ids.specs.declared.ids.LastId.{LastId}
use Rattle.queue_storage.specs.Ids.{ids_of, AreKnown}
use Rattle.queue_storage.proofs.Found.{on_ok}
use Rattle.queue_storage.proofs.Peers.{counting_stays, ids_here}
use Rattle.queue_storage.proofs.ids.know_of.Goals as goal

pub returns-clause-same : goal.returns-clause-same
returns-clause-same c = counting_stays c.args.ids.now c.place.result c.at_mut.result.now c.know.new.ids c.at_mut.ensures.value c.know.ensures.same

pub returns-clause-known : goal.returns-clause-known
returns-clause-known c =
    let is = ids_here c.args.peer c.place.result c.args.ids.now c.at_mut.result.now c.know.new.ids c.place.ensures.value c.at_mut.ensures.value in
    on_ok c.know.result (AreKnown c.args.new.now c.know.new.ids) (AreKnown c.args.new.now (ids_of c.args.peer (set c.args.ids.now c.place.result c.know.new.ids)))
    (subst (λ (ids : List LastId). AreKnown c.args.new.now ids) is) c.know.ensures.known
