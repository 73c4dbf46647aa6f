use Rattle.std.proofs.Common.{◌≡◌, ◌++◌, List, map, ap, sym, ◌∙◌, subst, append_assoc}
use Rattle.rep_vault.specs.declared.store.Change.{Change}
use Rattle.rep_vault.specs.Contents.{Contents, with_records}
use Rattle.last_ids.specs.declared.ids.LastId.{LastId}
use Rattle.queue_storage.specs.declared.record.QueueRecord.{QueueRecord}
use Rattle.queue_storage.specs.Ids.{counting, ArePushed}
use Rattle.queue_storage.specs.Queues.{Storage, AreApart}
use Rattle.queue_storage.specs.Recorded.{Recorded}
use Rattle.queue_storage.specs.Texts.{queue_change, last_change}
use Rattle.queue_storage.proofs.Keeping.{peer_added, recorded_then}
use Rattle.queue_storage.proofs.store.QueueStore.add_peer.Goals as goal

pub returns-clause-recorded : goal.returns-clause-recorded
returns-clause-recorded g c = λ h apart beside.
    let before : Contents = g.V.Vault.contents c.args.vault.now in
    let old : Storage = record { queues = c.self.inside.queues; ids = map counting c.self.inside.ids; forms = c.self.inside.forms } in
    let p = c.args.peer in
    let queues : List Change = map queue_change c.args.queues.now in
    let lasts : List Change = map (last_change p) c.args.ids.now in
    let ids : List (List LastId) = map counting c.set_of.new.ids in
    let pushed : ArePushed p c.args.ids.now old.ids ids = subst (λ (xs : List (List LastId)). ArePushed p c.args.ids.now xs ids) c.know_of.ensures.same c.set_of.ensures.pushed in
    let was : Recorded before old = subst (Recorded before) (sym c.self.view_is) h in
    let new : AreApart (old.queues ++ c.args.queues.now) = subst (λ (s : Storage). AreApart (s.queues ++ c.args.queues.now)) (sym c.self.view_is) apart in
    let changes = c.deref.ensures.value ∙ (c.in_ok-changes-2.ensures ∙ (ap (λ (xs : List Change). xs ++ lasts) c.in_ok-changes.ensures ∙ append_assoc c.args.with.items queues lasts)) in
    subst (λ (qs : List QueueRecord). Recorded (g.V.Vault.contents c.put_new.new.vault) (record old { queues = qs; ids = ids })) (sym c.in_ok-put_new.ensures.queues)
    (recorded_then before (g.V.Vault.contents c.put_new.new.vault) old (record old { queues = old.queues ++ c.args.queues.now; ids = ids }) c.args.with.items (queues ++ lasts)
    (c.in_ok-put_new.ensures.records ∙ ap (λ (xs : List Change). with_records xs before) changes) (λ d k. peer_added d old p c.args.queues.now c.args.ids.now ids new pushed k) was beside)
