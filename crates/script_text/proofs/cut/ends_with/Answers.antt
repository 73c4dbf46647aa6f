use Rattle.std.proofs.Common.{sym, ap, ◌∙◌}
use Rattle.script_text.specs.Cut.{ends_with}
use Rattle.script_text.proofs.Pieces.{ends-push}
use Rattle.script_text.proofs.cut.ends_with.Goals as goal

pub returns-in-Some : goal.returns-in-Some
returns-in-Some c =
    sym (ap (ends_with c.args.byte) c.in-Some.ensures.cases.0 ∙ ends-push c.args.byte c.in-Some.field-0-1.now c.in-Some.last.now)
