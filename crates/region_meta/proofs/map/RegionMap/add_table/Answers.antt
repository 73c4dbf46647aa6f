use Rattle.std.proofs.Common.{◌≡◌, None, sym, subst, position, string_bytes}
use Rattle.region_meta.specs.Regions.{Map, is_named}
use Rattle.region_meta.specs.Refusals.{table_refusal}
use Rattle.region_meta.specs.Orders.{listed}
use Rattle.region_meta.proofs.Refused.{may-add, MayAdd, none-refused}
use Rattle.region_meta.proofs.Tables.{not-placed}
use Rattle.region_meta.proofs.Made.{table-made}
use Rattle.region_meta.proofs.map.RegionMap.add_table.Goals as goal

pub add_all-requires : goal.add_all-requires
add_all-requires c = record {
  absent =
      let m : Map = record { tables = listed c.self.inside.names.entries; regions = c.self.inside.regions } in
      let may : MayAdd c.args.table m = may-add c.args.table m (subst (λ (m : Map). table_refusal c.args.table m ≡ None) (sym c.self.view_is) (none-refused _ _ c.in_ok-may_add_table.ensures.refused)) in
      subst (λ t. position (is_named t) (listed c.self.inside.names.entries) ≡ None) (sym c.in_ok-name.ensures) (not-placed (listed c.self.inside.names.entries) c.args.table may.absent);
}

pub invariant_of-self-2 : goal.invariant_of-self-2
invariant_of-self-2 c =
    let m : Map = record { tables = listed c.self.inside.names.entries; regions = c.self.inside.regions } in
    table-made (listed c.self.inside.names.entries) (listed c.add_all.new.names.entries) c.self.inside.regions c.add_all.new.regions c.self.inside.orders c.add_all.new.orders
    (string_bytes c.in_ok-name.name) c.args.table c.args.families c.first_region.result c.in_ok-order.order c.len-count.result c.in-Some.number
    c.self.invariant (may-add c.args.table m (subst (λ (m : Map). table_refusal c.args.table m ≡ None) (sym c.self.view_is) (none-refused _ _ c.in_ok-may_add_table.ensures.refused)))
    c.in_ok-name.ensures c.len-count.ensures c.in-Some.ensures.1 c.first_region.ensures c.in_ok-order.ensures
    c.in_ok-add_all.ensures.names c.in_ok-add_all.ensures.regions c.in_ok-add_all.ensures.orders
