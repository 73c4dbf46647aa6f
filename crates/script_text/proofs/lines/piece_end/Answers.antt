use Rattle.std.proofs.Common.{sym, length}
use Rattle.std.specs.List.{prefix_len}
use Rattle.std.proofs.lemmas.List.Sums.{prefix_len-le-length}
use Rattle.script_text.proofs.Pieces.{found_at, found_none, in_piece}
use Rattle.script_text.proofs.lines.piece_end.Goals as goal

pub returns-in-Some : goal.returns-in-Some
returns-in-Some c =
    found_at (prefix_len (in_piece c.args.byte) c.args.text.now) (length c.args.text.now) _ (sym c.in-Some.ensures)

pub returns-in-None : goal.returns-in-None
returns-in-None c =
    found_none (prefix_len (in_piece c.args.byte) c.args.text.now) (length c.args.text.now) (prefix_len-le-length (in_piece c.args.byte) c.args.text.now) (sym c.in-None.ensures)
