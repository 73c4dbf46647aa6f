use Rattle.std.proofs.Common.{ℕ, List, All, filter, ap, sym, ◌∙◌, subst}
use Rattle.std.proofs.lemmas.List.Elements.{All-filter}
use Rattle.store_file.specs.declared.cell.RunCell.{RunCell}
use Rattle.store_file.specs.Order.{are_in_order}
use Rattle.store_file.specs.Spelling.{IsShort, IsTypedCell}
use Rattle.store_file.specs.Stored.{IsRunOf}
use Rattle.run_cells.specs.Merged.{is_within}
use Rattle.run_cells.proofs.Parts.{part-in_order}
use Rattle.cell_store.proofs.Gathered.{file_is}
use Rattle.cell_store.proofs.gathering.read_rows.Goals as goal

pub returns-clause-order : goal.returns-clause-order
returns-clause-order g c =
    let wanted = λ (x : RunCell). g.R.Rows.wants c.args.rows.now x.row in
    ap are_in_order c.cut_rows.ensures
    ∙ part-in_order wanted c.cut.result
    (ap are_in_order c.cut.ensures ∙ part-in_order (is_within c.args.run.now.range) c.in_ok-cells.cells c.in_ok-cells.ensures.order)

pub returns-clause-held : goal.returns-clause-held
returns-clause-held g c =
    let within = is_within c.args.run.now.range in
    let short = λ (x : RunCell). IsShort x.kind in
    let cells = c.in_ok-cells.cells in
    let whole = file_is (g.V.Vault.contents c.args.vault.now) c.args.run.now cells
    (subst (λ (name : List ℕ). IsRunOf (g.V.Vault.contents c.args.vault.now) name cells) c.as_str.ensures c.in_ok-cells.ensures.does) in
    record {
      typed = subst (λ (cs : List RunCell). All IsTypedCell (filter within cs)) (sym whole) (All-filter within IsTypedCell cells c.in_ok-cells.ensures.typed);
      short = subst (λ (cs : List RunCell). All short (filter within cs)) (sym whole) (All-filter within short cells c.in_ok-cells.ensures.short);
    }
