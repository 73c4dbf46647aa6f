use Rattle.std.proofs.Common.{arith}
use Rattle.rep_model.specs.State.{of}
use Rattle.region_events.proofs.TableAdded.{refusal_exists, refusal_many, refusal_none}
use Rattle.region_events.proofs.tables.refusal.Goals as goal

pub returns-in-Some-clause-first : goal.returns-in-Some-clause-first
returns-in-Some-clause-first c = λ fs m same index. refusal_exists c.args.core.now.own c.args.name.now fs m c.args.core.now index _ (c.in-Some.ensures (of c.args.core.now.own m) same)

pub returns-then-len-ge4096-clause-first : goal.returns-then-len-ge4096-clause-first
returns-then-len-ge4096-clause-first c = λ fs m same index. refusal_many c.args.core.now.own c.args.name.now fs m c.args.core.now index (c.in-None.ensures (of c.args.core.now.own m) same) (omega arith)

pub returns-clause-first : goal.returns-clause-first
returns-clause-first c = λ fs m same index. refusal_none c.args.core.now.own c.args.name.now fs m c.args.core.now index (c.in-None.ensures (of c.args.core.now.own m) same) (omega arith)
