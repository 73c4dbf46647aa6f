use Rattle.std.proofs.Common.{ℕ, ◌+◌, ◌∷◌, List, drop, ◌∙◌, sym, subst}
use Rattle.last_ids.specs.declared.ids.LastId.{LastId}
use Rattle.queue_storage.specs.Ids.{AreKnown}
use Rattle.queue_storage.proofs.Knowing.{known_still, left, pushed_next}
use Rattle.queue_storage.proofs.ids.set_known.Goals as goal

pub set_one-requires-clause-known : goal.set_one-requires-clause-known
set_one-requires-clause-known c =
    let listed = left c.args.new.now c.loop-id.id-index c.id-item.result c.loop-id-test.true (sym c.id-item.is) in
    (subst (λ (xs : List LastId). AreKnown xs c.loop-id.ids) listed c.loop-id.invariant.1).0

pub loop-id-preserved : goal.loop-id-preserved
loop-id-preserved c =
    let rest : List LastId = drop (c.loop-id.id-index + 1) c.args.new.now in
    let listed = left c.args.new.now c.loop-id.id-index c.id-item.result c.loop-id-test.true (sym c.id-item.is) in
    let known : AreKnown (c.id-item.result ∷ rest) c.loop-id.ids = subst (λ (xs : List LastId). AreKnown xs c.loop-id.ids) listed c.loop-id.invariant.1 in (
      c.set_one.ensures.order,
      known_still rest c.loop-id.ids c.set_one.new.ids c.set_one.ensures.still known.1,
      λ (r : ℕ). pushed_next r c.args.new.now c.loop-id.id-index c.id-item.result _ _ c.loop-id-test.true (sym c.id-item.is) (c.set_one.ensures.value r) ∙ c.loop-id.invariant.2 r,
    )
