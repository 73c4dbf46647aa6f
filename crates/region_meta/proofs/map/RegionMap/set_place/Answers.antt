use Rattle.std.proofs.Common.{◌-◌, List, sym, subst, find}
use Rattle.std.specs.Prelude.{IsSome}
use Rattle.region_meta.specs.Regions.{Map, is_region, region_of}
use Rattle.region_meta.specs.Orders.{Shape, listed, IsKept}
use Rattle.region_meta.proofs.Shapes.{numbered-regions}
use Rattle.region_meta.proofs.Changing.{some-within, placed-shapes, placed-is}
use Rattle.region_meta.proofs.map.RegionMap.set_place.Goals as goal

pub at_mut-region-requires : goal.at_mut-region-requires
at_mut-region-requires c =
    some-within c.self.inside.regions (numbered-regions c.self.inside.regions c.self.invariant.numbered) c.number.result c.number.ensures.least
    (subst (λ n. IsSome (find (is_region n) c.self.inside.regions)) (sym c.number.ensures.value)
    (subst (λ (m : Map). IsSome (region_of c.args.region m)) (sym c.self.view_is) c.requires))

pub invariant_of-self : goal.invariant_of-self
invariant_of-self c =
    rw c.next_place-region.ensures
    (subst (λ (xs : List Shape). IsKept (listed c.self.inside.names.entries) xs c.self.inside.orders)
    (sym (placed-shapes c.self.inside.regions (c.number.result - 1) c.at_mut-region.result.now c.args.place c.at_mut-region.ensures.value)) c.self.invariant)

pub returns : goal.returns
returns c =
    rw (c.next_place-region.ensures, ← c.self.view_is, ← c.number.ensures.value)
    (placed-is (listed c.self.inside.names.entries) c.self.inside.regions c.number.result c.args.place c.at_mut-region.result.now
    (numbered-regions c.self.inside.regions c.self.invariant.numbered) c.number.ensures.least c.at_mut-region.ensures.value)
