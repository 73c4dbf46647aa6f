use Rattle.std.proofs.Common.{◌≡◌, ◌≤◌, drop}
use Rattle.script_text.specs.Forms.{digits}
use Rattle.script_text.proofs.forms.digits.Given as goal

abbrev pub invariant-loop-b : goal.invariant-loop-b
invariant-loop-b l = (digits 0 l.word ≡ digits l.number (drop l.b-index l.word)) × (l.number ≤ l.most)
