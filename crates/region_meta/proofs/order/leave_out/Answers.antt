use Rattle.std.proofs.Common.{sym, [], ◌∙◌}
use Rattle.region_meta.specs.Orders.{is_place}
use Rattle.region_meta.proofs.Lists.{removed, spliced-absent}
use Rattle.region_meta.proofs.order.leave_out.Goals as goal

pub returns-in-Some : goal.returns-in-Some
returns-in-Some c =
    c.remove.ensures.items ∙ removed (is_place c.args.one) c.args.places.now.items c.in-Some.at (rw (← c.deref.ensures.value) (sym c.in-Some.ensures.at))

pub returns-in_default : goal.returns-in_default
returns-in_default c = sym (spliced-absent (is_place c.args.one) [] _ (rw (← c.deref.ensures.value) (sym c.in_default.ensures.at)))
