use Rattle.std.proofs.Common.{◌≡◌, ◌+◌, [], ◌∷◌, ◌++◌, take, filter, Some, ap, sym, ◌∙◌}
use Rattle.run_cells.specs.Outdone.{counts_in}
use Rattle.run_cells.proofs.Passing.{there, one_kept, none_kept}
use Rattle.run_cells.proofs.compaction.compact.Goals as goal
use Rattle.run_cells.proofs.compaction.compact.Goals.{then-not-is_outdone+in_ok-copy_of+in_ok-push, else-not-is_outdone}

pub loop-at-preserved : goal.loop-at-preserved
loop-at-preserved c =
    let cells = c.args.cells.now in
    let cell = c.index-cells-at.result in
    let told = c.is_outdone.ensures cell (there cells c.loop-at.at cell c.loop-at-test.true ∙ ap (λ x. Some x) (sym c.index-cells-at.is)) in
    elim c.if-not-is_outdone.branch [
      | then-not-is_outdone+in_ok-copy_of+in_ok-push w ↦
          let one : filter (counts_in cells) (take (c.loop-at.at + 1) cells) ≡ filter (counts_in cells) (take c.loop-at.at cells) ++ cell ∷ [] = one_kept cells c.loop-at.at cell c.loop-at-test.true c.index-cells-at.is (sym told ∙ w.if-not-is_outdone.true) in
          cc (w.in_ok-push.ensures.ok, w.in_ok-copy_of.ensures)
      | else-not-is_outdone w ↦
          let none : filter (counts_in cells) (take (c.loop-at.at + 1) cells) ≡ filter (counts_in cells) (take c.loop-at.at cells) = none_kept cells c.loop-at.at cell c.loop-at-test.true c.index-cells-at.is (sym told ∙ w.if-not-is_outdone.false) in
          cc
    ]
