use Rattle.std.proofs.Common.{sym}
use Rattle.rep_model.specs.State.{is_region}
use Rattle.rep_model.specs.RegionEvents.{opened}
use Rattle.rep_model.proofs.Replacing.{changed-at, IfSome-absent}
use Rattle.plain_parts.proofs.change.open_region.Goals as goal

pub returns-in_default : goal.returns-in_default
returns-in_default c = IfSome-absent (is_region c.args.number) c.args.regions.now _ (sym c.in_default.ensures)

pub returns : goal.returns
returns c =
    rw c.in_ok-add_barrier.ensures (changed-at (is_region c.args.number) c.args.regions.now _ c.at_mut-hosted.result.now (opened c.args.server c.args.barrier) (sym c.in-Some.ensures) c.at_mut-hosted.ensures.value)
