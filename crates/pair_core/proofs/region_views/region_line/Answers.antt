use Rattle.rep_model.specs.State.{of}
use Rattle.pair_core.proofs.SeenRegion.{has_trace, traced_is_seen}
use Rattle.pair_core.proofs.region_views.region_line.Goals as goal

pub returns-in-None-trace : goal.returns-in-None-trace
returns-in-None-trace c = record {
  seen = λ way k m reached here stands.
      has_trace way c.args.core.now.own k c.args.core.now m reached here stands c.args.number c.in-Some.found.now (c.in-Some.ensures (of c.args.core.now.own m) stands.regions) c.in-None-trace.ensures;
}

pub returns-in_ok-traced_view-in-Some-trace : goal.returns-in_ok-traced_view-in-Some-trace
returns-in_ok-traced_view-in-Some-trace c = record {
  seen = λ way k m reached here stands.
      traced_is_seen way c.args.core.now.own k c.args.core.now m reached here stands c.args.number c.in-Some.found.now c.in-Some-trace.trace.now _ (c.in-Some.ensures (of c.args.core.now.own m) stands.regions) c.in-Some-trace.ensures
      c.in_ok-traced_view-in-Some-trace.ensures;
}
