use Rattle.std.proofs.Common.{sym, ap, ◌∙◌}
use Rattle.script_text.specs.Cut.{without_last}
use Rattle.script_text.proofs.Pieces.{is_same, is_other, without-last, with-last}
use Rattle.script_text.proofs.lines.without_return.Goals as goal

pub returns-in-Some : goal.returns-in-Some
returns-in-Some c =
    sym (ap (without_last 13) c.in-Some.ensures.cases.0 ∙ without-last 13 c.in-Some.front.now c.in-Some.last.now (is_same _ _ c.if-last-eq13.true))

pub returns-in_default : goal.returns-in_default
returns-in_default c =
    c.in-Some.ensures.cases.0 ∙ sym (ap (without_last 13) c.in-Some.ensures.cases.0 ∙ with-last 13 c.in-Some.front.now c.in-Some.last.now (is_other _ _ c.if-last-eq13.false))
