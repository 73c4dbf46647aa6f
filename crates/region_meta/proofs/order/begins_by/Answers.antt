use Rattle.std.proofs.lemmas.Option.{slice_get-get_or}
use Rattle.region_meta.specs.Regions.{given}
use Rattle.region_meta.proofs.order.begins_by.Goals as goal

pub returns : goal.returns
unfolding given
returns c = rw (slice_get-get_or c.args.regions.now c.args.place c.index-regions-place.result c.requires) c.is_from.ensures
