use Rattle.std.proofs.Common.{◌≡◌, ◌++◌, List, map, ap, sym, ◌∙◌, subst}
use Rattle.rep_vault.specs.declared.store.Change.{Change}
use Rattle.rep_vault.specs.Contents.{Contents, with_records}
use Rattle.queue_storage.specs.declared.record.QueueRecord.{QueueRecord}
use Rattle.queue_storage.specs.Ids.{counting}
use Rattle.queue_storage.specs.Queues.{Storage, AreApart}
use Rattle.queue_storage.specs.Recorded.{Recorded}
use Rattle.queue_storage.specs.Texts.{queue_change}
use Rattle.queue_storage.proofs.Found.{on_both}
use Rattle.queue_storage.proofs.Keeping.{queues_added, recorded_then}
use Rattle.queue_storage.proofs.store.QueueStore.add.Goals as goal

pub returns-clause-recorded : goal.returns-clause-recorded
returns-clause-recorded g c =
    let before : Contents = g.V.Vault.contents c.args.vault.now in
    let old : Storage = record { queues = c.self.inside.queues; ids = map counting c.self.inside.ids; forms = c.self.inside.forms } in
    let own : List Change = map queue_change c.args.queues.now in
    on_both c.put_new.result (g.V.Vault.contents c.put_new.new.vault ≡ with_records c.deref.result.now before) (c.put_new.new.queues ≡ old.queues ++ c.args.queues.now) _
    c.put_new.ensures.records c.put_new.ensures.queues (λ put queues h apart beside.
    let was : Recorded before old = subst (Recorded before) (sym c.self.view_is) h in
    let new : AreApart (old.queues ++ c.args.queues.now) = subst (λ (s : Storage). AreApart (s.queues ++ c.args.queues.now)) (sym c.self.view_is) apart in
    subst (λ (qs : List QueueRecord). Recorded (g.V.Vault.contents c.put_new.new.vault) (record old { queues = qs })) (sym queues)
    (recorded_then before (g.V.Vault.contents c.put_new.new.vault) old (record old { queues = old.queues ++ c.args.queues.now }) c.args.with.items own
    (put ∙ ap (λ (xs : List Change). with_records xs before) (c.deref.ensures.value ∙ c.in_ok-changes.ensures)) (λ d k. queues_added d old c.args.queues.now new k) was beside))
