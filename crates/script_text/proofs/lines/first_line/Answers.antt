use Rattle.std.proofs.Common.{arith}
use Rattle.script_text.proofs.Pieces.{line-front, line-last}
use Rattle.script_text.proofs.lines.first_line.Goals as goal

pub returns-then-end-text-clause-lines : goal.returns-then-end-text-clause-lines
returns-then-end-text-clause-lines c = rw (c.without_return.ensures) (line-front c.args.text.now _ c.piece_end-end.ensures (omega arith))

pub returns-else-end-text-clause-lines : goal.returns-else-end-text-clause-lines
returns-else-end-text-clause-lines c = line-last c.args.text.now _ c.piece_end-end.ensures (omega arith) (omega arith)
