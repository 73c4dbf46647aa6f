use Rattle.std.proofs.Common.{append_assoc}
use Rattle.std.proofs.lemmas.Result.{IfOk-equal}
use Rattle.report_text.proofs.reply.write_reply.Goals as goal

pub returns-in-Sealed : goal.returns-in-Sealed
returns-in-Sealed c = IfOk-equal _ _ _ _ c.write-in-Sealed.ensures.bytes (rw c.in-Sealed.is (simp append_assoc))

pub returns-in_ok-write-in-All : goal.returns-in_ok-write-in-All
returns-in_ok-write-in-All c =
    IfOk-equal _ _ _ _ c.write_acks-in-All.ensures (rw (c.in-All.is, c.in_ok-write-in-All.ensures.bytes) (simp append_assoc))
