use Rattle.std.proofs.Common.{ℕ, ◌-◌, ◌≡◌, Result, Ok, Err, set, ap, ◌∙◌}
use Rattle.std.specs.Prelude.{OnOk}
use Rattle.region_barriers.specs.History.{History}
use Rattle.cluster_core.specs.declared.parts.Trace.{Trace}
use Rattle.cluster_core.specs.Absorbing.{change_at}
use Rattle.cluster_core.proofs.Places.{change_at-set}
use Rattle.region_events.specs.Effects.{opened_trace}
use Rattle.rep_model.specs.RegionEvents.{with_barrier}
use Rattle.region_events.proofs.openings.note.Goals as goal

weaker : {T E : Type 0} (P Q : Type 0) (r : Result T E) → (P → Q) → OnOk r P → OnOk r Q
weaker P Q (Ok x) f p = f p
weaker P Q (Err e) f p = tt

pub returns : goal.returns
returns c =
    let x : Trace = c.at_mut-trace.result.now in
    weaker _ _ c.add_barrier.result
    (λ (e : c.add_barrier.new.barriers ≡ record x.barriers { barriers = with_barrier c.args.barrier x.barriers.barriers }).
    ap (λ (b : History). set c.args.traces.now (c.number.result - 1) (record x { barriers = b })) e
    ∙ (change_at-set (opened_trace c.args.barrier) c.args.traces.now (c.number.result - 1) x c.at_mut-trace.ensures.value
    ∙ ap (λ (r : ℕ). change_at (opened_trace c.args.barrier) (r - 1) c.args.traces.now) c.number.ensures.value)) c.add_barrier.ensures
