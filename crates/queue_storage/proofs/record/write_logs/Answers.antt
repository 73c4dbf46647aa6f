use Rattle.std.proofs.Common.{arith}
use Rattle.queue_storage.proofs.Logs.{logs_more, logs_all}
use Rattle.queue_storage.proofs.record.write_logs.Goals as goal

pub loop-before-preserved : goal.loop-before-preserved
loop-before-preserved c = (
  logs_more c.args.out.now.items c.loop-before.out.items _ c.args.first c.loop-before.before c.loop-before.auto.before c.loop-before.invariant.0 c.in_ok-write-2.ensures.bytes,
  λ less. absurd (omega (arith, less, c.loop-before-test.true, c.loop-before.auto.before)),
)

pub returns : goal.returns
returns c = logs_all c.args.out.now.items c.loop-before.out.items c.args.first c.args.last c.loop-before.before c.loop-before.auto.before c.loop-before.auto.before-end c.loop-before-test.false c.loop-before.invariant.1 c.loop-before.invariant.0
