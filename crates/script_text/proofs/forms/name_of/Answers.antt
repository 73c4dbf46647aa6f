use Rattle.std.proofs.Common.{refl}
use Rattle.script_text.specs.Forms.{name_of}
use Rattle.script_text.proofs.Reading.{no-name}
use Rattle.script_text.proofs.forms.name_of.Goals as goal

pub returns-in_default : goal.returns-in_default
unfolding name_of
returns-in_default c = rw (no-name c.args.word.now c.in_default.ensures.cases.0) refl
