use Rattle.std.proofs.Common.{List, length, ap}
use Rattle.rep_model.specs.State.{of}
use Rattle.region_meta.specs.declared.region.Region.{Region}
use Rattle.pair_core.proofs.SeenRegion.{counted, none_above}
use Rattle.pair_core.proofs.region_views.region_count.Goals as goal

pub returns : goal.returns
returns c = record {
  count = λ way k m reached here stands. counted c.args.core.now.own k c.args.core.now (of c.args.core.now.own m) stands _ (ap (λ (xs : List Region). length xs) c.regions.ensures);
  above = λ way k m reached here stands r above. none_above way c.args.core.now.own k c.args.core.now m reached here stands r _ (ap (λ (xs : List Region). length xs) c.regions.ensures) above;
}
