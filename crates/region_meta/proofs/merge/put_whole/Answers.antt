use Rattle.std.proofs.Common.{◌∷◌, []}
use Rattle.region_meta.proofs.Changing.{gone-two}
use Rattle.region_meta.proofs.merge.put_whole.Goals as goal

pub returns-clause-regions : goal.returns-clause-regions
returns-clause-regions c =
    λ r s e f. gone-two c.args.regions.now (c.args.whole ∷ []) c.push.new.self c.args.low c.args.high r s c.at_mut-2.result.now c.at_mut-3.result.now
    c.in_ok-push.ensures.ok c.requires.low c.requires.high c.requires.apart c.at_mut-2.ensures.value c.at_mut-3.ensures.value e f
