use Rattle.std.proofs.Common.{ℕ, Some, ap, sym, ◌∙◌}
use Rattle.log_cleaner.specs.declared.sweep.RegionUse.{RegionUse}
use Rattle.log_cleaner.specs.Needs.{region_needs}
use Rattle.log_cleaner.proofs.Lowest.{more_needy, no_more}
use Rattle.log_cleaner.proofs.sweep.needy_region.Goals as goal
use Rattle.log_cleaner.proofs.sweep.needy_region.Goals.{then-region_needs, else-region_needs}

pub loop-region-preserved : goal.loop-region-preserved
loop-region-preserved c =
    let test = region_needs c.args.log.now in
    let number : RegionUse → ℕ = λ u. u.region in
    let item = c.region-item.result in
    elim c.if-region_needs.branch [
      | then-region_needs w ↦
          more_needy test number c.args.regions.now c.loop-region.region-index item c.loop-region.lowest _ c.loop-region-test.true c.loop-region.invariant c.region-item.is (sym c.region_needs.ensures ∙ w.if-region_needs.true)
          (w.lowest-is ∙ ap (λ (n : ℕ). Some n) w.lower_region.ensures)
      | else-region_needs w ↦
          no_more test number c.args.regions.now c.loop-region.region-index item c.loop-region.lowest _ c.loop-region-test.true c.loop-region.invariant c.region-item.is (sym c.region_needs.ensures ∙ w.if-region_needs.false) w.lowest-is
    ]
