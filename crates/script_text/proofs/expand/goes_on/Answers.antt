use Rattle.std.proofs.Common.{sym, ◌∙◌}
use Rattle.script_text.proofs.Dues.{last-passes}
use Rattle.script_text.proofs.expand.goes_on.Goals as goal

pub returns-in-Some : goal.returns-in-Some
returns-in-Some c rs said = c.passes.ensures ∙ sym (last-passes rs _ _ (sym said ∙ c.in-Some.ensures.cases.0))
