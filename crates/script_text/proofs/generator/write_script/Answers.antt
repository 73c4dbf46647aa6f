use Rattle.std.proofs.Common.{◌≡◌, ◌++◌, sym, ap, ◌∙◌, append_assoc}
use Rattle.script_text.proofs.Generated.{turns-step}
use Rattle.script_text.proofs.generator.write_script.Goals as goal

pub loop-before-preserved : goal.loop-before-preserved
loop-before-preserved c =
    let i = c.loop-before.before in
    let same : c.from.result ≡ i = c.from.ensures in
    rw (c.in_ok-course.ensures.text, c.in_ok-course.ensures.course, same) (append_assoc c.loop-before.out.items _ _ ∙ ap (λ t. c.loop-before.out.items ++ t) (sym (turns-step c.args.size i c.loop-before.course c.loop-before-test.true)) ∙ c.loop-before.invariant)
