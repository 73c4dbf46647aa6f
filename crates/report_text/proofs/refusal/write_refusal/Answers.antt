use Rattle.std.proofs.Common.{append_assoc}
use Rattle.std.proofs.lemmas.Result.{IfOk-equal}
use Rattle.report_text.proofs.refusal.write_refusal.Goals as goal

pub returns-in-Unmigrated : goal.returns-in-Unmigrated
returns-in-Unmigrated c = IfOk-equal _ _ _ _ c.write-in-Unmigrated.ensures.bytes (rw c.in-Unmigrated.is (simp append_assoc))
