use Rattle.std.proofs.Common.{◌≡◌, ℕ, List, Option, sym, ap, ◌∙◌, Some, None, subst, position, slice_get, map}
use Rattle.region_meta.specs.declared.region.Region.{Region}
use Rattle.region_meta.specs.Regions.{Map, Table, is_named}
use Rattle.region_meta.specs.Orders.{listed, shape, IsKept, IsHolder, IsOrder}
use Rattle.region_meta.proofs.Located.{Located, located-none, located-some, some-places, known-places}
use Rattle.region_meta.proofs.map.RegionMap.locate.Goals as goal

-- the table isn't there
absent : (c : goal.In_default) → Located c.args.self.now c.args.table.now c.args.row.now None
absent c =
    subst (λ (m : Map). Located m c.args.table.now c.args.row.now None) c.self.view_is
    (located-none (listed c.self.inside.names.entries) c.self.inside.regions c.self.inside.orders c.args.table.now c.args.row.now c.self.invariant
    (ap (λ (m : Map). position (is_named c.args.table.now) m.tables) c.self.view_is ∙ sym c.in_default.ensures.at))

-- the table is at a place, and the search gives a number
present : (tables : List Table) (rs : List Region) (orders : List (List ℕ)) (m : Map) (t row : List ℕ) (at : ℕ) (ns : List ℕ) (result : Option ℕ)
    → IsKept tables (map shape rs) orders → record { tables = tables; regions = rs } ≡ m → Some at ≡ position (is_named t) m.tables → Some ns ≡ slice_get orders at → IsHolder rs row ns result
    → Located m t row result
present tables rs orders m t row at ns result kept is there order holder =
    subst (λ (m : Map). Located m t row result) is
    (located-some tables rs orders t row at ns result kept (ap (λ (m : Map). position (is_named t) m.tables) is ∙ sym there) (sym order) holder)

ordered : (tables : List Table) (rs : List Region) (orders : List (List ℕ)) (m : Map) (t : List ℕ) (at : ℕ) (ns : List ℕ)
    → IsKept tables (map shape rs) orders → record { tables = tables; regions = rs } ≡ m → Some at ≡ position (is_named t) m.tables → Some ns ≡ slice_get orders at → IsOrder (map shape rs) t ns
ordered tables rs orders m t at ns kept is there order = kept.ordered t at ns (ap (λ (m : Map). position (is_named t) m.tables) is ∙ sym there) (sym order)

pub returns-in_default-clause-found : goal.returns-in_default-clause-found
returns-in_default-clause-found c = (absent c).found

pub returns-in_default-clause-first : goal.returns-in_default-clause-first
returns-in_default-clause-first c = (absent c).first

pub holder-requires-clause-some : goal.holder-requires-clause-some
holder-requires-clause-some c =
    some-places (map shape c.self.inside.regions) c.args.table.now c.in-Some-get.order.now
    (ordered (listed c.self.inside.names.entries) c.self.inside.regions c.self.inside.orders c.args.self.now c.args.table.now c.in-Some.at c.in-Some-get.order.now c.self.invariant c.self.view_is c.in-Some.ensures.at c.in-Some-get.ensures.value).follow

pub holder-requires-clause-known : goal.holder-requires-clause-known
holder-requires-clause-known c =
    known-places c.self.inside.regions c.args.table.now c.in-Some-get.order.now
    (ordered (listed c.self.inside.names.entries) c.self.inside.regions c.self.inside.orders c.args.self.now c.args.table.now c.in-Some.at c.in-Some-get.order.now c.self.invariant c.self.view_is c.in-Some.ensures.at c.in-Some-get.ensures.value).follow

pub returns-clause-found : goal.returns-clause-found
returns-clause-found c =
    (present (listed c.self.inside.names.entries) c.self.inside.regions c.self.inside.orders c.args.self.now c.args.table.now c.args.row.now c.in-Some.at c.in-Some-get.order.now c.holder.result c.self.invariant c.self.view_is c.in-Some.ensures.at c.in-Some-get.ensures.value c.holder.ensures).found

pub returns-clause-none : goal.returns-clause-none
returns-clause-none c =
    (present (listed c.self.inside.names.entries) c.self.inside.regions c.self.inside.orders c.args.self.now c.args.table.now c.args.row.now c.in-Some.at c.in-Some-get.order.now c.holder.result c.self.invariant c.self.view_is c.in-Some.ensures.at c.in-Some-get.ensures.value c.holder.ensures).none

pub returns-clause-first : goal.returns-clause-first
returns-clause-first c =
    (present (listed c.self.inside.names.entries) c.self.inside.regions c.self.inside.orders c.args.self.now c.args.table.now c.args.row.now c.in-Some.at c.in-Some-get.order.now c.holder.result c.self.invariant c.self.view_is c.in-Some.ensures.at c.in-Some-get.ensures.value c.holder.ensures).first
