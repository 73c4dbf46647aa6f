use Rattle.std.proofs.Common.{arith}
use Rattle.wal_entry.proofs.Pieces.{cut_is_cut}
use Rattle.wal_entry.proofs.Verdicts.{frame_begins}
use Rattle.wal_entry.proofs.decode.Decoder.decode.Goals as goal

pub returns-in-Ok-clause-spelled : goal.returns-in-Ok-clause-spelled
returns-in-Ok-clause-spelled c =
    frame_begins c.args.bytes.now c.in-Ok.decoded (λ i. omega (arith, c.type_inv.bytes i)) c.in-Ok.ensures.ok

pub returns-in-Err-Short-clause-seen : goal.returns-in-Err-Short-clause-seen
returns-in-Err-Short-clause-seen c = record {
  begun = c.judge.ensures.begun;
  waits = λ more. cut_is_cut c.args.bytes.now more c.in-Err-Short.until (rw c.in-Err-Short.field-0-is at c.in-Err-Short.ensures.stops);
}
