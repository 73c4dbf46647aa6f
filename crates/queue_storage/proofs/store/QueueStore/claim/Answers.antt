use Rattle.std.proofs.Common.{◌≡◌, ◌∷◌, ◌++◌, [], List, map, ap, sym, ◌∙◌, subst}
use Rattle.std.specs.Prelude.{slice_set}
use Rattle.rep_vault.specs.declared.store.Change.{Change}
use Rattle.rep_vault.specs.Contents.{Contents, with_records}
use Rattle.queue_storage.specs.declared.record.QueueRecord.{QueueRecord}
use Rattle.queue_storage.specs.declared.turns.Turn.TheVariants.{Owned}
use Rattle.queue_storage.specs.Ids.{counting}
use Rattle.queue_storage.specs.Queues.{Storage, queue_at, turned}
use Rattle.queue_storage.specs.Recorded.{Recorded}
use Rattle.queue_storage.specs.Texts.{queue_change}
use Rattle.queue_storage.proofs.Found.{becomes, on_both}
use Rattle.queue_storage.proofs.Keeping.{queue_turned}
use Rattle.queue_storage.proofs.Lookups.{IsAt, queue_found}
use Rattle.queue_storage.proofs.store.QueueStore.claim.Goals as goal

pub returns-clause-recorded : goal.returns-clause-recorded
returns-clause-recorded g c =
    let before : Contents = g.V.Vault.contents c.args.vault.now in
    let old : Storage = record { queues = c.self.inside.queues; ids = map counting c.self.inside.ids; forms = c.self.inside.forms } in
    let p = c.args.peer in
    let s = c.args.server in
    let next : QueueRecord = c.in-Some.next.queue in
    let b = becomes (queue_at p s old.queues) (turned (Owned c.args.by)) next c.in-Some.ensures.queue in
    let there = queue_found p s old.queues b.item b.found in
    let at : IsAt p s (turned (Owned c.args.by) b.item) = record { peer = there.peer; server = there.server } in
    on_both c.put_turned.result (g.V.Vault.contents c.put_turned.new.vault ≡ with_records c.deref.result.now before) (c.put_turned.new.queues ≡ slice_set old.queues c.in-Some.next.at next) _
    c.put_turned.ensures.records c.put_turned.ensures.queues (λ put queues h.
    subst (λ (d : Contents). Recorded d (record old { queues = c.put_turned.new.queues })) (sym (put ∙ ap (λ (xs : List Change). with_records xs before) (c.deref.ensures.value ∙ (c.in_ok-changes.ensures ∙ ap (λ (xs : List Change). xs ++ queue_change next ∷ []) c.new.ensures.items))))
    (subst (λ (qs : List QueueRecord). Recorded (with_records (queue_change next ∷ []) before) (record old { queues = qs })) (sym (queues ∙ c.in-Some.ensures.place))
    (queue_turned before old p s b.item next b.found (subst (IsAt p s) b.now at) (subst (Recorded before) (sym c.self.view_is) h))))
