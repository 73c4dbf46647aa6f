use Rattle.std.proofs.Common.{[], ◌∷◌, ap, sym, ◌∙◌}
use Rattle.rep_types.specs.declared.state.Kind.TheVariants as kind
use Rattle.rep_vault.specs.declared.store.Change.{Change}
use Rattle.rep_vault.specs.Contents.{with_records}
use Rattle.rep_model.specs.PeerEvents.{peer_plan}
use Rattle.cluster_core.proofs.Answering.{plan_refused}
use Rattle.peer_events.proofs.PeerAdded.{peer_faulted, peer_made}
use Rattle.peer_events.proofs.peers.peer.Goals as goal

pub returns-in-Some-clause-does : goal.returns-in-Some-clause-does
returns-in-Some-clause-does g c = λ way m reached inside stands there.
    let own = c.args.core.now.own in
    plan_refused own (peer_plan way own c.args.peer kind.Plain c.args.tables m) m _ _ c.in-Some.why (sym (c.in-Some.ensures way m stands.queues.peers stands.regions there)) stands

pub returns-in-Ok-add-clause-does : goal.returns-in-Ok-add-clause-does
returns-in-Ok-add-clause-does g c = λ way m reached inside stands there.
    peer_made way _ _ _ c.args.peer c.args.tables m stands (c.in-None.ensures way m stands.queues.peers stands.regions there) _ _ reached inside c.in-Ok.ensures.small
    (c.in-Done.ensures.does ∙ ap (λ (x : Change). with_records (x ∷ []) (g.V.Vault.contents c.args.own.now)) c.in-Ok.ensures.text) c.in-Ok-add.ensures

pub returns-in-Fault-clause-does : goal.returns-in-Fault-clause-does
returns-in-Fault-clause-does g c = λ way m reached inside stands there.
    peer_faulted way _ _ _ c.args.peer c.args.tables m stands (c.in-None.ensures way m stands.queues.peers stands.regions there) c.in-Fault.count _ c.in-Fault.ensures.does
