use Rattle.std.proofs.Common.{◌∙◌, sym, subst, arith}
use Rattle.std.proofs.lemmas.List.{take_all}
use Rattle.queue_storage.specs.Ids.{AreKnown}
use Rattle.queue_storage.proofs.Knowing.{known_next}
use Rattle.queue_storage.proofs.ids.know.Goals as goal

pub loop-id-preserved : goal.loop-id-preserved
loop-id-preserved c = (
  c.know_one.ensures.order,
  c.know_one.ensures.same ∙ c.loop-id.invariant.1,
  known_next c.args.new.now c.loop-id.id-index c.id-item.result c.loop-id.ids c.know_one.new.ids (omega arith) (sym c.id-item.is) c.know_one.ensures.still c.loop-id.invariant.2 c.in_ok-know_one.ensures.known,
)

pub returns-clause-known : goal.returns-clause-known
returns-clause-known c = subst (λ xs. AreKnown xs c.loop-id.ids) (take_all c.loop-id.id-index c.args.new.now (omega arith)) c.loop-id.invariant.2
