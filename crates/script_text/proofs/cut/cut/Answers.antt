use Rattle.std.proofs.Common.{sym}
use Rattle.script_text.proofs.Pieces.{cut-at, cut-absent}
use Rattle.script_text.proofs.cut.cut.Goals as goal

pub returns-in-Some-clause-parts : goal.returns-in-Some-clause-parts
returns-in-Some-clause-parts c = cut-at c.args.byte c.args.text.now c.in-Some.at (sym c.in-Some.ensures)

pub returns-in-None-clause-none : goal.returns-in-None-clause-none
returns-in-None-clause-none c = λ _. cut-absent c.args.byte c.args.text.now (sym c.in-None.ensures)
