use Rattle.rep_model.specs.State.{of}
use Rattle.region_events.proofs.Recovered.{refusal_no_region, refusal_wrong, refusal_unsealed, refusal_none}
use Rattle.region_events.proofs.recovering.refusal.Goals as goal

pub returns-in-None : goal.returns-in-None
returns-in-None c = λ m files same stand. refusal_no_region c.args.core.now.own c.args.number m (c.in-None.ensures (of c.args.core.now.own m) same)

pub returns-in-None-lost_at : goal.returns-in-None-lost_at
returns-in-None-lost_at c = λ m files same stand. refusal_wrong c.args.core.now.own c.args.number m _ (c.in-Some.ensures (of c.args.core.now.own m) same) c.in-None-lost_at.ensures

pub returns-then-not-is_sealed : goal.returns-then-not-is_sealed
returns-then-not-is_sealed c = λ m files same stand.
    refusal_unsealed c.args.core.now.own c.args.number m _ (c.in-Some.ensures (of c.args.core.now.own m) same) c.in-Some-lost_at.server c.in-Some-lost_at.ensures c.is_sealed.result
    (c.is_sealed.ensures files (of c.args.core.now.own m) stand) c.if-not-is_sealed.true

pub returns : goal.returns
returns c = λ m files same stand.
    refusal_none c.args.core.now.own c.args.number m _ (c.in-Some.ensures (of c.args.core.now.own m) same) c.in-Some-lost_at.server c.in-Some-lost_at.ensures c.is_sealed.result
    (c.is_sealed.ensures files (of c.args.core.now.own m) stand) c.if-not-is_sealed.false
