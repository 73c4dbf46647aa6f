use Rattle.std.proofs.Common.{◌≡◌, ◌+◌, [], ◌∷◌, ◌++◌, take, filter, Some, ap, sym, ◌∙◌, arith}
use Rattle.std.proofs.lemmas.Grind.{common_steps}
use Rattle.run_cells.specs.Outdone.{counts_in, shown}
use Rattle.run_cells.proofs.Passing.{there, shown_of, one_shown, passed}
use Rattle.run_cells.proofs.views.show.Goals as goal
use Rattle.run_cells.proofs.views.show.Goals.{then-not-is_outdone+in_ok-push_view, else-not-is_outdone}

pub loop-at-preserved : goal.loop-at-preserved
loop-at-preserved c =
    let cells = c.args.cells.now in
    let cell = c.index-cells-at.result in
    let at = c.loop-at.at in
    let told = c.is_outdone.ensures cell (there cells at cell c.loop-at-test.true ∙ ap (λ x. Some x) (sym c.index-cells-at.is)) in
    elim c.if-not-is_outdone.branch [
      | then-not-is_outdone+in_ok-push_view w ↦
          let one : shown_of (filter (counts_in cells) (take (at + 1) cells)) ≡ shown_of (filter (counts_in cells) (take at cells)) ++ shown_of (cell ∷ []) = one_shown cells at cell c.loop-at-test.true c.index-cells-at.is (sym told ∙ w.if-not-is_outdone.true) in
          cc (w.in_ok-push_view.ensures)
      | else-not-is_outdone w ↦
          let none : shown_of (filter (counts_in cells) (take (at + 1) cells)) ≡ shown_of (filter (counts_in cells) (take at cells)) = passed cells at cell c.loop-at-test.true c.index-cells-at.is (sym told ∙ w.if-not-is_outdone.false) in
          cc
    ]

pub returns : goal.returns
unfolding shown
returns c = grind (arith, common_steps)
