use Rattle.std.proofs.Common.{arith}
use Rattle.script_text.proofs.Pieces.{first-front, first-last}
use Rattle.script_text.proofs.lines.first_piece.Goals as goal

pub returns-then-end-text-clause-pieces : goal.returns-then-end-text-clause-pieces
returns-then-end-text-clause-pieces c = first-front c.args.byte c.args.text.now _ c.piece_end-end.ensures (omega arith)

pub returns-else-end-text-clause-pieces : goal.returns-else-end-text-clause-pieces
returns-else-end-text-clause-pieces c = first-last c.args.byte c.args.text.now _ c.piece_end-end.ensures (omega arith) (omega arith)
