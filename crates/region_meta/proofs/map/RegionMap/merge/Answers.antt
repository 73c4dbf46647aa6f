use Rattle.std.proofs.Common.{◌≡◌, ◌+◌, ◌-◌, ◌++◌, ◌∷◌, [], List, None, sym, ap, ◌∙◌, subst, map, set, position, length}
use Rattle.std.proofs.lemmas.Option.{none-some}
use Rattle.rep_types.specs.declared.state.PlaceOf.TheVariants as place
use Rattle.region_meta.specs.declared.region.Region.{Region}
use Rattle.region_meta.specs.Regions.{Map, is_named}
use Rattle.region_meta.specs.Refusals.{merge_refusal}
use Rattle.region_meta.specs.Changes.{moved, joined, merged}
use Rattle.region_meta.specs.Orders.{listed, shape, IsKept}
use Rattle.region_meta.proofs.Shapes.{numbered-regions}
use Rattle.region_meta.proofs.Refused.{may-merge, MayMerge, none-refused}
use Rattle.region_meta.proofs.Grown.{generation-below, adjacent-apart}
use Rattle.region_meta.proofs.Changing.{merge-is}
use Rattle.region_meta.proofs.Made.{found-there, table-there, Both, both-found, whole-made}
use Rattle.region_meta.proofs.map.RegionMap.merge.Goals as goal

pub joined-requires-clause-low : goal.joined-requires-clause-low
joined-requires-clause-low c = generation-below (listed c.self.inside.names.entries) c.self.inside.regions c.self.inside.orders (c.number.result - 1) c.in-Some.first.now c.self.invariant (sym c.in-Some.ensures.value)

pub joined-requires-clause-high : goal.joined-requires-clause-high
joined-requires-clause-high c = generation-below (listed c.self.inside.names.entries) c.self.inside.regions c.self.inside.orders (c.number-2.result - 1) c.in-Some-get.second.now c.self.invariant (sym c.in-Some-get.ensures.value)

pub returns-in_default-clause-accepted : goal.returns-in_default-clause-accepted
returns-in_default-clause-accepted c = λ allowed.
    let m : Map = record { tables = listed c.self.inside.names.entries; regions = c.self.inside.regions } in
    let may : MayMerge c.args.low c.args.high m = may-merge c.args.low c.args.high c.args.closed m (subst (λ (m : Map). merge_refusal c.args.low c.args.high c.args.closed m ≡ None) (sym c.self.view_is) allowed) in
    absurd (none-some may.r (c.in_default.ensures.value
    ∙ (sym (found-there (listed c.self.inside.names.entries) c.self.inside.regions c.self.inside.orders c.args.low c.number.result c.self.invariant c.number.ensures.value c.number.ensures.least) ∙ may.there_r)))

pub returns-in_default-get-clause-accepted : goal.returns-in_default-get-clause-accepted
returns-in_default-get-clause-accepted c = λ allowed.
    let m : Map = record { tables = listed c.self.inside.names.entries; regions = c.self.inside.regions } in
    let may : MayMerge c.args.low c.args.high m = may-merge c.args.low c.args.high c.args.closed m (subst (λ (m : Map). merge_refusal c.args.low c.args.high c.args.closed m ≡ None) (sym c.self.view_is) allowed) in
    absurd (none-some may.s (c.in_default-get.ensures.value
    ∙ (sym (found-there (listed c.self.inside.names.entries) c.self.inside.regions c.self.inside.orders c.args.high c.number-2.result c.self.invariant c.number-2.ensures.value c.number-2.ensures.least) ∙ may.there_s)))

pub returns-in_default-table_at-clause-accepted : goal.returns-in_default-table_at-clause-accepted
returns-in_default-table_at-clause-accepted c = λ allowed.
    absurd (table-there (listed c.self.inside.names.entries) c.self.inside.regions c.self.inside.orders (c.number.result - 1) c.in-Some.first.now c.self.invariant (sym c.in-Some.ensures.value)
    (c.in_default-table_at.ensures.at ∙ ap (λ (m : Map). position (is_named c.in-Some.first.now.table) m.tables) (sym c.self.view_is)))

pub put_whole-requires-clause-apart : goal.put_whole-requires-clause-apart
put_whole-requires-clause-apart c =
    let both : Both c.in-Some.first.now c.in-Some-get.second.now (length c.self.inside.regions) =
    both-found (listed c.self.inside.names.entries) c.self.inside.regions c.self.inside.orders c.args.low c.args.high c.number.result c.number-2.result c.args.closed c.in-Some.first.now c.in-Some-get.second.now c.self.invariant
    (subst (λ (m : Map). merge_refusal c.args.low c.args.high c.args.closed m ≡ None) (sym c.self.view_is) (none-refused _ _ c.in_ok-may_merge.ensures.refused))
    c.number.ensures.value c.number.ensures.least c.number-2.ensures.value c.number-2.ensures.least c.in-Some.ensures.value c.in-Some-get.ensures.value in
    adjacent-apart (listed c.self.inside.names.entries) c.self.inside.regions c.self.inside.orders (c.number.result - 1) (c.number-2.result - 1) c.in-Some.first.now c.in-Some-get.second.now c.self.invariant
    (sym c.in-Some.ensures.value) (sym c.in-Some-get.ensures.value) both.off_r both.adjacent

made : (c : goal.In_ok-put_whole) →
    (c.put_whole.new.regions ≡ set (set c.self.inside.regions (c.number.result - 1) (moved place.Gone c.in-Some.first.now)) (c.number-2.result - 1) (moved place.Gone c.in-Some-get.second.now)
    ++ joined (length c.self.inside.regions + 1) c.in-Some.first.now c.in-Some-get.second.now ∷ [])
    × IsKept (listed c.self.inside.names.entries) (map shape c.put_whole.new.regions) c.put_whole.new.orders
made c =
    let both : Both c.in-Some.first.now c.in-Some-get.second.now (length c.self.inside.regions) =
    both-found (listed c.self.inside.names.entries) c.self.inside.regions c.self.inside.orders c.args.low c.args.high c.number.result c.number-2.result c.args.closed c.in-Some.first.now c.in-Some-get.second.now c.self.invariant
    (subst (λ (m : Map). merge_refusal c.args.low c.args.high c.args.closed m ≡ None) (sym c.self.view_is) (none-refused _ _ c.in_ok-may_merge.ensures.refused))
    c.number.ensures.value c.number.ensures.least c.number-2.ensures.value c.number-2.ensures.least c.in-Some.ensures.value c.in-Some-get.ensures.value in
    whole-made (listed c.self.inside.names.entries) c.self.inside.regions c.put_whole.new.regions c.self.inside.orders c.put_whole.new.orders (c.number.result - 1) (c.number-2.result - 1) c.in-Some-table_at.table c.len-count.result
    c.in-Some-new.number c.in-Some.first.now c.in-Some-get.second.now c.in_ok-whole.whole c.self.invariant both c.in-Some.ensures.value c.in-Some-get.ensures.value
    (c.in-Some-table_at.ensures.at ∙ ap (λ (m : Map). position (is_named c.in-Some.first.now.table) m.tables) (sym c.self.view_is))
    c.len-count.ensures c.in-Some-new.ensures.1 c.in_ok-whole.ensures c.in_ok-put_whole.ensures.regions c.in_ok-put_whole.ensures.orders

pub invariant_of-self-2 : goal.invariant_of-self-2
invariant_of-self-2 c = (made c).1

apart : (c : goal.In_ok-put_whole) → c.number-2.result - 1 ≡ c.number.result - 1 → ⊥
apart c =
    let both : Both c.in-Some.first.now c.in-Some-get.second.now (length c.self.inside.regions) =
    both-found (listed c.self.inside.names.entries) c.self.inside.regions c.self.inside.orders c.args.low c.args.high c.number.result c.number-2.result c.args.closed c.in-Some.first.now c.in-Some-get.second.now c.self.invariant
    (subst (λ (m : Map). merge_refusal c.args.low c.args.high c.args.closed m ≡ None) (sym c.self.view_is) (none-refused _ _ c.in_ok-may_merge.ensures.refused))
    c.number.ensures.value c.number.ensures.least c.number-2.ensures.value c.number-2.ensures.least c.in-Some.ensures.value c.in-Some-get.ensures.value in
    adjacent-apart (listed c.self.inside.names.entries) c.self.inside.regions c.self.inside.orders (c.number.result - 1) (c.number-2.result - 1) c.in-Some.first.now c.in-Some-get.second.now c.self.invariant
    (sym c.in-Some.ensures.value) (sym c.in-Some-get.ensures.value) both.off_r both.adjacent

pub returns-clause-joined : goal.returns-clause-joined
returns-clause-joined c =
    let m : Map = record { tables = listed c.self.inside.names.entries; regions = c.self.inside.regions } in
    ap (λ (xs : List Region). record m { regions = xs }) (made c).0
    ∙ (merge-is (listed c.self.inside.names.entries) c.self.inside.regions c.number.result c.number-2.result c.in-Some.first.now c.in-Some-get.second.now (numbered-regions c.self.inside.regions c.self.invariant.numbered)
    c.number.ensures.least c.number-2.ensures.least (apart c) (sym c.in-Some.ensures.value) (sym c.in-Some-get.ensures.value)
    ∙ (ap (λ n. merged n c.number-2.result m) c.number.ensures.value ∙ (ap (λ n. merged c.args.low n m) c.number-2.ensures.value ∙ ap (merged c.args.low c.args.high) c.self.view_is)))
