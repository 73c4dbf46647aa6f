use Rattle.std.proofs.Common.{◌≡◌, ◌∷◌, ◌++◌, [], List, map, ap, sym, ◌∙◌, subst}
use Rattle.std.specs.Prelude.{slice_set}
use Rattle.rep_vault.specs.declared.store.Change.{Change}
use Rattle.rep_vault.specs.Contents.{Contents, with_records}
use Rattle.last_ids.specs.declared.ids.LastId.{LastId}
use Rattle.queue_storage.specs.declared.record.QueueRecord.{QueueRecord}
use Rattle.queue_storage.specs.declared.turns.Turn.TheVariants.{Placed}
use Rattle.queue_storage.specs.Ids.{counting, ArePushed}
use Rattle.queue_storage.specs.Queues.{Storage, queue_at, turned}
use Rattle.queue_storage.specs.Recorded.{Recorded}
use Rattle.queue_storage.specs.Texts.{queue_change, last_change}
use Rattle.queue_storage.proofs.Found.{becomes}
use Rattle.queue_storage.proofs.Keeping.{place_recorded}
use Rattle.queue_storage.proofs.Lookups.{IsAt, queue_found}
use Rattle.queue_storage.proofs.store.QueueStore.record_place.Goals as goal

pub returns-clause-recorded : goal.returns-clause-recorded
returns-clause-recorded g c = λ h.
    let before : Contents = g.V.Vault.contents c.args.vault.now in
    let old : Storage = record { queues = c.self.inside.queues; ids = map counting c.self.inside.ids; forms = c.self.inside.forms } in
    let p = c.args.peer in
    let s = c.args.server in
    let next : QueueRecord = c.in-Some.next.queue in
    let made = Placed c.args.place c.args.at in
    let b = becomes (queue_at p s old.queues) (turned made) next c.in-Some.ensures.queue in
    let there = queue_found p s old.queues b.item b.found in
    let at : IsAt p s (turned made b.item) = record { peer = there.peer; server = there.server } in
    let ids : List (List LastId) = map counting c.set_of.new.ids in
    let pushed : ArePushed p c.args.ids.now old.ids ids = subst (λ (xs : List (List LastId)). ArePushed p c.args.ids.now xs ids) c.know_of.ensures.same c.set_of.ensures.pushed in
    let changes = c.deref.ensures.value ∙ (c.in_ok-changes-2.ensures ∙ ap (λ (xs : List Change). xs ++ map (last_change p) c.args.ids.now) (c.in_ok-changes.ensures ∙ ap (λ (xs : List Change). xs ++ queue_change next ∷ []) c.new.ensures.items)) in
    subst (λ (d : Contents). Recorded d (record old { queues = c.put_turned.new.queues; ids = ids })) (sym (c.in_ok-put_turned.ensures.records ∙ ap (λ (xs : List Change). with_records xs before) changes))
    (subst (λ (qs : List QueueRecord). Recorded (with_records (queue_change next ∷ map (last_change p) c.args.ids.now) before) (record old { queues = qs; ids = ids })) (sym (c.in_ok-put_turned.ensures.queues ∙ c.in-Some.ensures.place))
    (place_recorded before old p s b.item next c.args.ids.now ids b.found (subst (IsAt p s) b.now at) pushed (subst (Recorded before) (sym c.self.view_is) h)))
