use Rattle.std.proofs.Common.{◌∙◌}
use Rattle.run_cells.proofs.Together.{begins_so, goes_so, ends_so}
use Rattle.run_cells.proofs.merging.merge.Goals as goal

pub loop-cell-init : goal.loop-cell-init
loop-cell-init c =
    begins_so c.args.left c.args.right _ _ _ c.requires.left c.requires.right c.requires.agree c.new-all.ensures
    (c.from_vec-left.ensures.items ∙ c.into_vec.ensures) (c.from_vec-right.ensures.items ∙ c.into_vec-2.ensures)

pub loop-cell-preserved : goal.loop-cell-preserved
loop-cell-preserved c =
    goes_so c.args.left c.args.right c.loop-cell.all c.push.new.self c.in-Some.cell c.loop-cell.left.items c.loop-cell.right.items c.take_first.new.left.items c.take_first.new.right.items
    c.in_ok-push.ensures.ok c.in-Some.ensures c.loop-cell.invariant

pub returns : goal.returns
returns c =
    ends_so c.args.left c.args.right c.loop-cell.all c.loop-cell.left.items c.loop-cell.right.items c.take_first.new.left.items c.take_first.new.right.items c.take_first.result
    c.take_first.ensures c.in_default.not-Some c.loop-cell.invariant
