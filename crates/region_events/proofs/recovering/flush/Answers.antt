use Rattle.std.proofs.Common.{◌-◌, ℕ, ap, sym, ◌∙◌, arith}
use Rattle.cluster_core.specs.Absorbing.{change_at}
use Rattle.cluster_core.specs.declared.parts.Trace.{Trace}
use Rattle.cluster_core.proofs.Places.{change_at-set, change_at-past}
use Rattle.region_events.specs.Recovery.{recovered_trace}
use Rattle.region_events.proofs.recovering.flush.Goals as goal

pub returns-then-at-len : goal.returns-then-at-len
returns-then-at-len c =
    let x : Trace = c.at_mut-trace.result.now in
    change_at-set recovered_trace c.args.traces.now (c.number.result - 1) x c.at_mut-trace.ensures.value
    ∙ ap (λ (r : ℕ). change_at recovered_trace (r - 1) c.args.traces.now) c.number.ensures.value

pub returns-else-at-len : goal.returns-else-at-len
returns-else-at-len c = sym (change_at-past recovered_trace c.args.traces.now (c.args.region - 1) (omega arith))
