use Rattle.std.proofs.Common.{sym, ◌∙◌}
use Rattle.rep_model.specs.Forms.{forms}
use Rattle.plain_parts.proofs.Forming.{forms-some, forms-none}
use Rattle.plain_parts.proofs.forms.forms.Goals as goal
use Rattle.plain_parts.proofs.forms.forms.Goals.{in-Some+in_ok-push, in_default}

pub loop-entry-preserved : goal.loop-entry-preserved
loop-entry-preserved c =
    let from = c.args.from in
    let to = c.args.to in
    let tables = c.args.tables.now in
    let xs = c.args.entries.now in
    let l = c.loop-entry in
    let x = c.entry-item.result in
    let whole = forms from to tables xs in
    elim c.match-branch-2.branch [
      | in-Some+in_ok-push w ↦
          rw (w.made-is, w.in_ok-push.ensures.ok, w.mark.ensures)
          (forms-some from to tables xs l.entry-index x _ l.made whole l.invariant c.loop-entry-test.true c.entry-item.is (sym (c.in_ok-edit.ensures) ∙ w.in-Some.is))
      | in_default w ↦
          rw w.made-is
          (forms-none from to tables xs l.entry-index x l.made whole l.invariant c.loop-entry-test.true c.entry-item.is (sym (c.in_ok-edit.ensures) ∙ w.in_default.is))
    ]
