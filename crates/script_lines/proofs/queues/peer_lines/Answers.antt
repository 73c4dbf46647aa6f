use Rattle.std.proofs.Common.{arith}
use Rattle.script_lines.proofs.Numbers.{grown-new, grown-next, grown-all}
use Rattle.script_lines.proofs.queues.peer_lines.Goals as goal

pub loop-at-init : goal.loop-at-init
loop-at-init g c = λ e. grown-new _ _

pub loop-at-preserved : goal.loop-at-preserved
loop-at-preserved g c = λ e. grown-next _ _ _ _ _ _ (c.loop-at.invariant e) c.server_id.ensures (c.in_ok-server_line.ensures.text e)

pub returns : goal.returns
returns g c = record { text = λ e. grown-all _ _ _ _ _ (c.loop-at.invariant e) (omega arith) }
