use Rattle.std.proofs.Common.{◌∙◌}
use Rattle.region_meta.proofs.Tables.{listed-found}
use Rattle.region_meta.proofs.map.RegionMap.families.Goals as goal

pub returns : goal.returns
returns c =
    rw (← c.self.view_is, ← c.as_str.ensures.text) (c.get.ensures.value ∙ listed-found c.self.inside.names.entries c.as_str.result.now)
