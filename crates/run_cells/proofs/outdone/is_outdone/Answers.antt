use Rattle.std.proofs.Common.{ap, sym, ◌∙◌, drop, ◌+◌}
use Rattle.std.specs.Prelude.{◌||◌}
use Rattle.std.specs.List.{list_any, take_while}
use Rattle.run_cells.specs.Outdone.{is_twin, is_delete}
use Rattle.run_cells.proofs.Passing.{behind_all, put_at, delete_at}
use Rattle.run_cells.proofs.outdone.is_outdone.Goals as goal

pub returns-then-follows_its_place : goal.returns-then-follows_its_place
returns-then-follows_its_place c = λ d got.
    let cell = c.index-cells-at.result in
    let deleted = list_any is_delete (take_while (is_twin cell) (drop (c.args.at + 1) c.args.cells.now)) in
    c.if-follows_its_place.true
    ∙ sym (put_at c.args.cells.now c.args.at cell d c.in-Put.field-0 c.requires.within c.index-cells-at.is c.requires.order c.in-Put.is got
    ∙ ap (λ b. b || deleted) (sym c.follows_its_place.ensures ∙ c.if-follows_its_place.true))

pub returns-else-follows_its_place : goal.returns-else-follows_its_place
returns-else-follows_its_place c = λ d got.
    let cell = c.index-cells-at.result in
    let deleted = list_any is_delete (take_while (is_twin cell) (drop (c.args.at + 1) c.args.cells.now)) in
    sym (put_at c.args.cells.now c.args.at cell d c.in-Put.field-0 c.requires.within c.index-cells-at.is c.requires.order c.in-Put.is got
    ∙ ap (λ b. b || deleted) (sym c.follows_its_place.ensures ∙ c.if-follows_its_place.false)
    ∙ ap (λ cs. list_any is_delete (take_while (is_twin cell) cs)) (sym (behind_all c.args.cells.now (c.args.at + 1)))
    ∙ sym c.is_deleted.ensures)

pub returns-in-Erase : goal.returns-in-Erase
returns-in-Erase c = λ d got.
    c.follows_a_delete.ensures
    ∙ sym (delete_at c.args.cells.now c.args.at c.index-cells-at.result d c.requires.within c.index-cells-at.is c.requires.order c.in-Erase.is got)
