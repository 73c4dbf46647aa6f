use Rattle.std.proofs.Common.{arith}
use Rattle.wire_batch.proofs.Whole.{answer_spelled, answer_again}
use Rattle.wire_batch.proofs.decode.decode_batch.Goals as goal

pub returns-clause-spelled : goal.returns-clause-spelled
returns-clause-spelled c = answer_spelled c.args.bytes.now c.batch_of.result (λ i. omega (arith, c.type_inv.bytes i)) c.batch_of.ensures

pub returns-clause-again : goal.returns-clause-again
returns-clause-again c = λ batch spelled. answer_again c.args.bytes.now c.batch_of.result batch c.batch_of.ensures spelled
