use Rattle.std.proofs.Common.{◌≡◌, ℕ, ◌<◌, true, cond, Some, None, get_or, refl, sym, ap, ◌∙◌, arith}
use Rattle.std.specs.Prelude.{nat_le}
use Rattle.std.proofs.lemmas.Bool.Decides.{nat_tests}
use Rattle.script_text.specs.Forms.{is_digit, within}
use Rattle.script_text.proofs.Reading.{digits-past}
use Rattle.script_text.proofs.forms.digits.Goals as goal

is_past : (n most : ℕ) → None ≡ cond (nat_le n most) (Some n) None → most < n
is_past n most h = grind (arith, nat_tests)

pub returns-in-None : goal.returns-in-None
returns-in-None c =
    let b = get_or c.args.word.now c.loop-b.b-index 0 in
    let digit : is_digit b ≡ true = sym c.if-not-is_ascii_digit.ensures.value in
    sym (ap (within 0 c.args.most) c.loop-b.invariant.0 ∙ digits-past c.args.most c.loop-b.number c.args.word.now c.loop-b.b-index b c.loop-b-test.true refl digit (is_past _ _ c.in-None.ensures))
