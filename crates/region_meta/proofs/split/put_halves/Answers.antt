use Rattle.std.proofs.Common.{sym, ◌∷◌, [], ◌∙◌}
use Rattle.region_meta.proofs.Changing.{gone-one, set-same}
use Rattle.region_meta.proofs.Refused.{on-err}
use Rattle.region_meta.proofs.split.put_halves.Goals as goal

pub returns-then-is_err-clause-orders_stay : goal.returns-then-is_err-clause-orders_stay
returns-then-is_err-clause-orders_stay c =
    set-same c.args.orders.now c.args.table c.at_mut.result.now c.split.new.self c.at_mut.ensures.value
    (on-err c.split.result _ (sym c.is_err.ensures.value ∙ c.if-is_err.true) c.split.ensures.err)

pub returns-clause-regions : goal.returns-clause-regions
returns-clause-regions c =
    λ r e. gone-one c.args.regions.now (c.args.low ∷ c.args.high ∷ []) _ c.args.place r c.at_mut-2.result.now c.in_ok-push_both.ensures.ok c.requires.place c.at_mut-2.ensures.value e
