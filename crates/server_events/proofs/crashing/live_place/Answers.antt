use Rattle.std.proofs.Common.{sym, ◌∙◌}
use Rattle.rep_model.specs.State.{of}
use Rattle.server_events.proofs.Crashed.{no_server, is_dead}
use Rattle.server_events.proofs.crashing.live_place.Goals as goal

pub returns-in_default-clause-state : goal.returns-in_default-clause-state
returns-in_default-clause-state c = λ files m stand. no_server c.args.core.now.own c.args.server m (c.in_default.ensures.state files (of c.args.core.now.own m) stand)

pub returns-then-not-lives_at-clause-state : goal.returns-then-not-lives_at-clause-state
returns-then-not-lives_at-clause-state c = λ files m stand.
    let here = c.in-Some.ensures.state files (of c.args.core.now.own m) stand in
    is_dead c.args.core.now.own c.args.server m here.server here.known (sym here.stands.live ∙ (sym (c.lives_at.ensures here.station here.there) ∙ c.if-not-lives_at.true))

pub returns-clause-state : goal.returns-clause-state
returns-clause-state c = λ files m stand.
    let here = c.in-Some.ensures.state files (of c.args.core.now.own m) stand in
    record { here = here; live = sym here.stands.live ∙ (sym (c.lives_at.ensures here.station here.there) ∙ c.if-not-lives_at.false) }
