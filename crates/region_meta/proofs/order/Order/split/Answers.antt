use Rattle.std.proofs.Common.{sym, [], ◌∷◌, ◌+◌}
use Rattle.region_meta.specs.Orders.{is_place}
use Rattle.region_meta.proofs.Lists.{two-spliced, spliced-absent}
use Rattle.region_meta.proofs.order.Order.split.Goals as goal

pub returns-in_default-clause-ok : goal.returns-in_default-clause-ok
returns-in_default-clause-ok c =
    sym (spliced-absent (is_place c.args.parent) (c.args.half ∷ (c.args.half + 1) ∷ []) _ (rw (← c.self.view_is, ← c.deref.ensures.value) (sym c.in_default.ensures.at)))

pub returns-clause-ok : goal.returns-clause-ok
returns-clause-ok c =
    rw (c.in_ok-insert.ensures.items, ← c.self.view_is)
    (two-spliced (is_place c.args.parent) c.self.inside.places.items c.in-Some.at c.args.half (c.args.half + 1) (rw (← c.deref.ensures.value) (sym c.in-Some.ensures.at)))
