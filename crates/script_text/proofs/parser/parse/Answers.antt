use Rattle.std.proofs.Common.{◌≡◌, length, sym, ap, ◌∙◌, arith}
use Rattle.std.proofs.lemmas.Bool.{eqb-true}
use Rattle.script_text.proofs.Scripts.{joined, script-start, joined-end, joined-ok, explains}
use Rattle.script_text.proofs.parser.parse.Goals as goal

pub loop-rest-init : goal.loop-rest-init
loop-rest-init c = rw c.new-commands.ensures (script-start c.args.input _, omega arith)

pub returns-in-Ok-ended-clause-commands : goal.returns-in-Ok-ended-clause-commands
returns-in-Ok-ended-clause-commands c =
    let empty : length c.loop-rest.rest.now ≡ 0 = eqb-true _ _ (sym c.is_empty.ensures ∙ c.loop-rest-test.false) in
    sym c.loop-rest.invariant.0 ∙ joined-end _ _ _ c.loop-rest.commands c.loop-rest.rest.now empty ∙ joined-ok c.loop-rest.commands _ c.in-Ok-ended.ensures.ok

pub returns-in-Err-ended-clause-refused : goal.returns-in-Err-ended-clause-refused
returns-in-Err-ended-clause-refused c =
    let empty : length c.loop-rest.rest.now ≡ 0 = eqb-true _ _ (sym c.is_empty.ensures ∙ c.loop-rest-test.false) in
    explains _ _ (sym c.loop-rest.invariant.0 ∙ joined-end _ _ _ c.loop-rest.commands c.loop-rest.rest.now empty ∙ ap (joined c.loop-rest.commands) c.in-Err-ended.ensures.refused)
