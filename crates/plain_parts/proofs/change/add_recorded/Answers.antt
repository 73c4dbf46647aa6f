use Rattle.std.proofs.Common.{sym, refl, ◌++◌}
use Rattle.rep_model.specs.State.{is_peer}
use Rattle.rep_model.specs.declared.machine.Peer.{Peer}
use Rattle.rep_model.proofs.Replacing.{changed-or-same-at, same-absent}
use Rattle.plain_parts.proofs.change.add_recorded.Goals as goal

pub returns-in_ok-add_commits : goal.returns-in_ok-add_commits
returns-in_ok-add_commits c =
    rw c.in_ok-add_commits.ensures (changed-or-same-at (is_peer c.args.number) c.args.peers.now _ c.at_mut.result.now (λ (x : Peer). record x { recorded = x.recorded ++ c.args.entries.now }) (sym c.in-Some.ensures) c.at_mut.ensures.value)

pub returns-in_default : goal.returns-in_default
returns-in_default c =
    same-absent (is_peer c.args.number) c.args.peers.now c.args.peers.now (λ (x : Peer). record x { recorded = x.recorded ++ c.args.entries.now }) (sym c.in_default.ensures) refl
