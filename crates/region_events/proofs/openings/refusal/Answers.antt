use Rattle.std.proofs.Common.{sym, ◌∙◌}
use Rattle.rep_model.specs.State.{of}
use Rattle.region_events.proofs.OpeningBegun.{refusal_no_region, refusal_no_server, refusal_dead, refusal_wrong, refusal_none}
use Rattle.region_events.proofs.openings.refusal.Goals as goal

pub returns-in-None : goal.returns-in-None
returns-in-None c = λ m files same stand. refusal_no_region c.args.core.now.own c.args.number c.args.server m (c.in-None.ensures (of c.args.core.now.own m) same)

pub returns-in-None-station_at : goal.returns-in-None-station_at
returns-in-None-station_at c = λ m files same stand.
    refusal_no_server c.args.core.now.own c.args.number c.args.server m _ (c.in-Some.ensures (of c.args.core.now.own m) same) (c.in-None-station_at.ensures.state files (of c.args.core.now.own m) stand)

pub returns-then-not-lives : goal.returns-then-not-lives
returns-then-not-lives c = λ m files same stand.
    refusal_dead c.args.core.now.own c.args.number c.args.server m _ (c.in-Some.ensures (of c.args.core.now.own m) same) files _ _
    (c.in-Some-station_at.ensures.state files (of c.args.core.now.own m) stand) c.lives.result c.lives.ensures c.if-not-lives.true

pub returns-then-not-is_off : goal.returns-then-not-is_off
returns-then-not-is_off c = λ m files same stand.
    refusal_wrong c.args.core.now.own c.args.number c.args.server m _ (c.in-Some.ensures (of c.args.core.now.own m) same) files _ _
    (c.in-Some-station_at.ensures.state files (of c.args.core.now.own m) stand) c.lives.result c.lives.ensures c.if-not-lives.false
    (sym c.is_off.ensures ∙ c.if-not-is_off.true)

pub returns : goal.returns
returns c = λ m files same stand.
    refusal_none c.args.core.now.own c.args.number c.args.server m _ (c.in-Some.ensures (of c.args.core.now.own m) same) files _ _
    (c.in-Some-station_at.ensures.state files (of c.args.core.now.own m) stand) c.lives.result c.lives.ensures c.if-not-lives.false
    (sym c.is_off.ensures ∙ c.if-not-is_off.false)
