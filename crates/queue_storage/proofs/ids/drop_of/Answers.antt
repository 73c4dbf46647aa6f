use Rattle.std.proofs.Common.{List, map, set, sym, subst}
use Rattle.last_ids.specs.declared.ids.LastId.{LastId}
use Rattle.queue_storage.specs.Ids.{counting, AreDropped}
use Rattle.queue_storage.proofs.Peers.{ids_gone}
use Rattle.queue_storage.proofs.ids.drop_of.Goals as goal

pub returns-clause-dropped : goal.returns-clause-dropped
returns-clause-dropped c =
    subst (λ (ids : List LastId). AreDropped c.args.peer (map counting c.args.ids.now) (map counting (set c.args.ids.now c.place.result ids))) (sym c.new.ensures)
    (ids_gone c.args.peer c.place.result c.args.ids.now c.at_mut.result.now c.place.ensures.value c.requires c.at_mut.ensures.value)
