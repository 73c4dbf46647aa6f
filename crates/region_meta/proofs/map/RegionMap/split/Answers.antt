use Rattle.std.proofs.Common.{◌≡◌, ◌+◌, ◌-◌, ◌++◌, ◌∷◌, [], List, None, sym, ap, ◌∙◌, subst, map, set, position, length}
use Rattle.std.proofs.lemmas.Option.{none-some}
use Rattle.rep_types.specs.declared.state.PlaceOf.TheVariants as place
use Rattle.region_meta.specs.declared.region.Region.{Region}
use Rattle.region_meta.specs.Regions.{Map, is_named}
use Rattle.region_meta.specs.Refusals.{split_refusal}
use Rattle.region_meta.specs.Changes.{moved, low_half, high_half, split_at}
use Rattle.region_meta.specs.Orders.{listed, shape, IsKept}
use Rattle.region_meta.proofs.Shapes.{numbered-regions}
use Rattle.region_meta.proofs.Refused.{may-split, MaySplit, none-refused}
use Rattle.region_meta.proofs.Grown.{generation-below}
use Rattle.region_meta.proofs.Changing.{split-is}
use Rattle.region_meta.proofs.Made.{found-there, table-there, halves-made}
use Rattle.region_meta.proofs.map.RegionMap.split.Goals as goal

pub low_half-requires : goal.low_half-requires
low_half-requires c = generation-below (listed c.self.inside.names.entries) c.self.inside.regions c.self.inside.orders (c.number.result - 1) c.in-Some.parent.now c.self.invariant (sym c.in-Some.ensures.value)

pub high_half-requires : goal.high_half-requires
high_half-requires c = generation-below (listed c.self.inside.names.entries) c.self.inside.regions c.self.inside.orders (c.number.result - 1) c.in-Some.parent.now c.self.invariant (sym c.in-Some.ensures.value)

pub returns-in_default-clause-accepted : goal.returns-in_default-clause-accepted
returns-in_default-clause-accepted c = λ allowed.
    let m : Map = record { tables = listed c.self.inside.names.entries; regions = c.self.inside.regions } in
    let may : MaySplit c.args.region c.args.key.now m = may-split c.args.region c.args.key.now c.args.closed m (subst (λ (m : Map). split_refusal c.args.region c.args.key.now c.args.closed m ≡ None) (sym c.self.view_is) allowed) in
    absurd (none-some may.r (c.in_default.ensures.value
    ∙ (sym (found-there (listed c.self.inside.names.entries) c.self.inside.regions c.self.inside.orders c.args.region c.number.result c.self.invariant c.number.ensures.value c.number.ensures.least) ∙ may.there)))

pub returns-in_default-table_at-clause-accepted : goal.returns-in_default-table_at-clause-accepted
returns-in_default-table_at-clause-accepted c = λ allowed.
    absurd (table-there (listed c.self.inside.names.entries) c.self.inside.regions c.self.inside.orders (c.number.result - 1) c.in-Some.parent.now c.self.invariant (sym c.in-Some.ensures.value)
    (c.in_default-table_at.ensures.at ∙ ap (λ (m : Map). position (is_named c.in-Some.parent.now.table) m.tables) (sym c.self.view_is)))

made : (c : goal.In_ok-put_halves) →
    (c.put_halves.new.regions ≡ set c.self.inside.regions (c.number.result - 1) (moved place.Gone c.in-Some.parent.now)
    ++ low_half (length c.self.inside.regions + 1) c.args.key.now c.in-Some.parent.now ∷ high_half (length c.self.inside.regions + 1 + 1) c.args.key.now c.in-Some.parent.now ∷ [])
    × IsKept (listed c.self.inside.names.entries) (map shape c.put_halves.new.regions) c.put_halves.new.orders
made c =
    halves-made (listed c.self.inside.names.entries) c.self.inside.regions c.put_halves.new.regions c.self.inside.orders c.put_halves.new.orders c.args.region c.number.result c.in-Some-table_at.table c.len-count.result
    c.in-Some-new.low c.in-Some-new-2.high c.args.key.now c.args.closed c.in-Some.parent.now c.in_ok-low_half.low_half c.in_ok-high_half.high_half c.self.invariant
    (subst (λ (m : Map). split_refusal c.args.region c.args.key.now c.args.closed m ≡ None) (sym c.self.view_is) (none-refused _ _ c.in_ok-may_split.ensures.refused))
    c.number.ensures.value c.number.ensures.least c.in-Some.ensures.value
    (c.in-Some-table_at.ensures.at ∙ ap (λ (m : Map). position (is_named c.in-Some.parent.now.table) m.tables) (sym c.self.view_is))
    c.len-count.ensures c.in-Some-new.ensures.1 c.in-Some-new-2.ensures.1 c.in_ok-low_half.ensures c.in_ok-high_half.ensures c.in_ok-put_halves.ensures.regions c.in_ok-put_halves.ensures.orders

pub invariant_of-self-2 : goal.invariant_of-self-2
invariant_of-self-2 c = (made c).1

pub returns-clause-halved : goal.returns-clause-halved
returns-clause-halved c =
    let m : Map = record { tables = listed c.self.inside.names.entries; regions = c.self.inside.regions } in
    ap (λ (xs : List Region). record m { regions = xs }) (made c).0
    ∙ (split-is (listed c.self.inside.names.entries) c.self.inside.regions c.number.result c.args.key.now c.in-Some.parent.now (numbered-regions c.self.inside.regions c.self.invariant.numbered) c.number.ensures.least (sym c.in-Some.ensures.value)
    ∙ (ap (λ n. split_at n c.args.key.now m) c.number.ensures.value ∙ ap (split_at c.args.region c.args.key.now) c.self.view_is))
