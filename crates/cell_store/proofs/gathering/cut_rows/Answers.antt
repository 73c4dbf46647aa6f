use Rattle.std.proofs.Common.{filter, ap, ◌∙◌, rules}
use Rattle.std.proofs.lemmas.Fn.{filter_same}
use Rattle.store_file.specs.declared.cell.RunCell.{RunCell}
use Rattle.cell_store.proofs.gathering.cut_rows.Goals as goal

pub returns : goal.returns
returns g c =
    let wanted = λ (x : RunCell). g.R.Rows.wants c.args.rows.now x.row in
    c.from_vec.ensures
    ∙ filter_same _ wanted _ (λ x b q k. search rules) _ _ c.retain.ensures.filtered
    ∙ ap (filter wanted) c.into_vec-cells.ensures
