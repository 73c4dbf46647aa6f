use Rattle.std.proofs.Common.{◌≡◌, ◌+◌, ◌-◌, sym, ap, ◌∙◌, arith, slice_get}
use Rattle.region_meta.proofs.Shapes.{region-at, numbered-regions, copied}
use Rattle.region_meta.proofs.map.RegionMap.region.Goals as goal

pub returns-clause-found : goal.returns-clause-found
returns-clause-found c =
    rw (← c.self.view_is) (c.get.ensures.value ∙ (ap (λ n. slice_get c.self.inside.regions (n - 1)) c.number.ensures.value
    ∙ sym (region-at c.self.inside.regions (numbered-regions c.self.inside.regions c.self.invariant.numbered) c.args.region (omega arith))))

pub returns-clause-number : goal.returns-clause-number
returns-clause-number c =
    copied c.get.result (λ r. r.number ≡ c.args.region) (λ r e.
    let own : r.number ≡ (c.number.result - 1) + 1 = numbered-regions c.self.inside.regions c.self.invariant.numbered (c.number.result - 1) r (sym c.get.ensures.value ∙ e) in
    omega arith)
