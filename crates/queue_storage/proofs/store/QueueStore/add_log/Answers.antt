use Rattle.std.proofs.Common.{◌≡◌, ◌++◌, List, map, filter, ap, sym, ◌∙◌, subst}
use Rattle.rep_vault.specs.declared.store.Change.{Change}
use Rattle.rep_vault.specs.Contents.{Contents, with_records}
use Rattle.queue_storage.specs.declared.record.QueueRecord.{QueueRecord}
use Rattle.queue_storage.specs.Changes.{lists_logs, log_changes}
use Rattle.queue_storage.specs.Ids.{counting}
use Rattle.queue_storage.specs.Queues.{Storage, logged}
use Rattle.queue_storage.specs.Recorded.{Recorded}
use Rattle.queue_storage.specs.Texts.{queue_change}
use Rattle.queue_storage.proofs.Keeping.{queues_logged, recorded_then}
use Rattle.queue_storage.proofs.store.QueueStore.add_log.Goals as goal

pub returns-clause-recorded : goal.returns-clause-recorded
returns-clause-recorded g c = λ h beside.
    let before : Contents = g.V.Vault.contents c.args.vault.now in
    let old : Storage = record { queues = c.self.inside.queues; ids = map counting c.self.inside.ids; forms = c.self.inside.forms } in
    let was : Recorded before old = subst (Recorded before) (sym c.self.view_is) h in
    let next : List QueueRecord = map (logged c.args.server c.args.log) old.queues in
    let listed : c.in_ok-next.next ≡ next = c.in_ok-next.ensures ∙ ap (map (logged c.args.server c.args.log)) c.as_slice.ensures in
    let changes = c.deref.ensures.value ∙ (c.in_ok-changes.ensures ∙ ap (λ (qs : List QueueRecord). c.args.with.items ++ map queue_change (filter (lists_logs c.args.server) qs)) (c.as_slice-2.ensures ∙ listed)) in
    subst (λ (qs : List QueueRecord). Recorded (g.V.Vault.contents c.put.new.vault) (record old { queues = qs })) (sym listed)
    (recorded_then before (g.V.Vault.contents c.put.new.vault) old (record old { queues = next }) c.args.with.items (log_changes c.args.server c.args.log old.queues)
    (c.in_ok-put.ensures.ok ∙ ap (λ (xs : List Change). with_records xs before) changes) (λ d k. queues_logged d old c.args.server c.args.log k) was beside)
