use Rattle.std.proofs.Common.{ℕ, Some, ap, sym, ◌∙◌}
use Rattle.log_cleaner.specs.declared.sweep.PeerUse.{PeerUse}
use Rattle.log_cleaner.specs.Needs.{peer_needs}
use Rattle.log_cleaner.proofs.Lowest.{more_needy, no_more}
use Rattle.log_cleaner.proofs.sweep.needy_peer.Goals as goal
use Rattle.log_cleaner.proofs.sweep.needy_peer.Goals.{then-peer_needs, else-peer_needs}

pub loop-peer-preserved : goal.loop-peer-preserved
loop-peer-preserved c =
    let test = peer_needs c.args.log.now in
    let number : PeerUse → ℕ = λ u. u.peer in
    let item = c.peer-item.result in
    elim c.if-peer_needs.branch [
      | then-peer_needs w ↦
          more_needy test number c.args.peers.now c.loop-peer.peer-index item c.loop-peer.lowest _ c.loop-peer-test.true c.loop-peer.invariant c.peer-item.is (sym c.peer_needs.ensures ∙ w.if-peer_needs.true)
          (w.lowest-is ∙ ap (λ (n : ℕ). Some n) w.lower_peer.ensures)
      | else-peer_needs w ↦
          no_more test number c.args.peers.now c.loop-peer.peer-index item c.loop-peer.lowest _ c.loop-peer-test.true c.loop-peer.invariant c.peer-item.is (sym c.peer_needs.ensures ∙ w.if-peer_needs.false) w.lowest-is
    ]
