use Rattle.std.proofs.Common.{append_assoc}
use Rattle.std.proofs.lemmas.Result.{IfOk-equal}
use Rattle.script_text.specs.Generating.{put_text}
use Rattle.script_text.proofs.generator.write_put.Goals as goal

pub returns : goal.returns
unfolding put_text
returns c = IfOk-equal _ _ _ _ c.write.ensures.bytes (simp append_assoc)
