use Rattle.std.proofs.Common.{sym, ap, ◌∙◌}
use Rattle.std.specs.Prelude.{is_some}
use Rattle.region_meta.specs.Regions.{is_named}
use Rattle.region_meta.specs.Orders.{listed}
use Rattle.region_meta.proofs.Lookups.{position-found}
use Rattle.region_meta.proofs.Tables.{listed-place}
use Rattle.region_meta.proofs.map.RegionMap.table_at.Goals as goal

pub returns-clause-at : goal.returns-clause-at
returns-clause-at c =
    rw (← c.self.view_is, ← c.as_str.ensures.text) (c.get_index_of.ensures.index ∙ listed-place c.self.inside.names.entries c.as_str.result.now)

pub returns-clause-found : goal.returns-clause-found
returns-clause-found c =
    rw (← c.self.view_is, ← c.as_str.ensures.text)
    (ap is_some (c.get_index_of.ensures.index ∙ listed-place c.self.inside.names.entries c.as_str.result.now)
    ∙ sym (position-found (is_named c.as_str.result.now) (listed c.self.inside.names.entries)))
