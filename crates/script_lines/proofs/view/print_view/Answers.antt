use Rattle.std.proofs.Common.{◌≡◌, ◌++◌, ◌∙◌, OnOk, subst, length}
use Rattle.rep_types.specs.declared.view.StatusLine.{StatusLine}
use Rattle.rep_model.specs.Runs.{state_of}
use Rattle.report_text.specs.StatusLine.{status_text}
use Rattle.script_lines.proofs.view.print_view.Goals as goal

pub returns-in_ok-view-in-Status : goal.returns-in_ok-view-in-Status
returns-in_ok-view-in-Status g c = record {
  text = λ e. rw c.in-Status.is (subst (λ (s : StatusLine). OnOk c.status_line-in-Status.result (c.status_line-in-Status.new.out.items ≡ c.args.out.now.items ++ status_text s)) (c.in_ok-view-in-Status.ensures.seen e) c.status_line-in-Status.ensures.text);
}
