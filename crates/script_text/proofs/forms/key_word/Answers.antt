use Rattle.std.proofs.Common.{refl}
use Rattle.script_text.specs.Forms.{key_word}
use Rattle.script_text.proofs.Reading.{no-key}
use Rattle.script_text.proofs.forms.key_word.Goals as goal

pub returns-in_default : goal.returns-in_default
unfolding key_word
returns-in_default c = rw (no-key c.args.word.now c.in_default.ensures.cases.0) refl
