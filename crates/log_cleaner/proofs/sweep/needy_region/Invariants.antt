use Rattle.std.proofs.Common.{◌≡◌, take}
use Rattle.log_cleaner.specs.Needs.{needy_region}
use Rattle.log_cleaner.proofs.sweep.needy_region.Given as goal

abbrev pub invariant-loop-region : goal.invariant-loop-region
invariant-loop-region l = l.lowest ≡ needy_region l.log (take l.region-index l.regions)
