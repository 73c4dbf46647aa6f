use Rattle.std.proofs.Common.{append_assoc}
use Rattle.std.proofs.lemmas.Result.{IfOk-equal}
use Rattle.report_text.proofs.refusal.write_storefault.Goals as goal

pub returns : goal.returns
returns c = IfOk-equal _ _ _ _ c.write.ensures.bytes (rw c.call_word.ensures (simp append_assoc))
