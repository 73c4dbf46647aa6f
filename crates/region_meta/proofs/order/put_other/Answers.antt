use Rattle.std.proofs.Common.{sym, ◌∷◌, []}
use Rattle.region_meta.specs.Orders.{is_place}
use Rattle.region_meta.proofs.Lists.{set-spliced, spliced-absent}
use Rattle.region_meta.proofs.order.put_other.Goals as goal

pub returns-in-Some : goal.returns-in-Some
returns-in-Some c = set-spliced (is_place c.args.one) _ _ _ (rw (← c.deref.ensures.value) (sym c.in-Some.ensures.at))

pub returns-in_default : goal.returns-in_default
returns-in_default c = sym (spliced-absent (is_place c.args.one) (c.args.other ∷ []) _ (rw (← c.deref.ensures.value) (sym c.in_default.ensures.at)))
