use Rattle.std.proofs.Common.{filter, ap, ◌∙◌, rules}
use Rattle.std.proofs.lemmas.Fn.{filter_same}
use Rattle.run_cells.specs.Merged.{is_within}
use Rattle.run_cells.proofs.cutting.cut.Goals as goal

pub returns : goal.returns
returns c =
    c.from_vec.ensures
    ∙ filter_same _ (is_within c.args.range.now) _ (λ x b q k. search rules) _ _ c.retain.ensures.filtered
    ∙ ap (filter (is_within c.args.range.now)) c.into_vec-cells.ensures
