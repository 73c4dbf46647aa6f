use Rattle.std.proofs.Common.{sym}
use Rattle.rep_model.specs.State.{is_region}
use Rattle.rep_model.specs.RegionEvents.{moved}
use Rattle.rep_model.proofs.Replacing.{changed-at, IfSome-absent}
use Rattle.plain_parts.proofs.change.set_place.Goals as goal

pub returns-in-Some : goal.returns-in-Some
returns-in-Some c =
    changed-at (is_region c.args.number) c.args.regions.now _ c.at_mut.result.now (moved c.args.place) (sym c.in-Some.ensures) c.at_mut.ensures.value

pub returns-in_default : goal.returns-in_default
returns-in_default c = IfSome-absent (is_region c.args.number) c.args.regions.now _ (sym c.in_default.ensures)
