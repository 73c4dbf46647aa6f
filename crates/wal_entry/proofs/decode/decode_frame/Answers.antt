use Rattle.wal_entry.proofs.Verdicts.{answer_again}
use Rattle.wal_entry.proofs.decode.decode_frame.Goals as goal

pub returns-clause-again : goal.returns-clause-again
returns-clause-again c = λ entry rest has same. answer_again c.args.bytes.now c.decode.result entry rest c.decode.ensures.exact has same
