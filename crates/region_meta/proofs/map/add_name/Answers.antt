use Rattle.std.proofs.Common.{◌∙◌, ap, string_bytes}
use Rattle.region_meta.specs.Orders.{listed}
use Rattle.region_meta.proofs.Tables.{listed-new, not-found}
use Rattle.region_meta.proofs.map.add_name.Goals as goal

pub returns-clause-ok : goal.returns-clause-ok
returns-clause-ok c =
    ap listed c.in_ok-insert.ensures.entries
    ∙ listed-new c.args.names.now.entries c.args.name c.args.families (not-found (listed c.args.names.now.entries) (string_bytes c.args.name) c.requires.absent)
