use Rattle.std.proofs.Common.{◌≡◌, List, map, ap, sym, ◌∙◌, subst}
use Rattle.queue_storage.specs.declared.record.QueueRecord.{QueueRecord}
use Rattle.queue_storage.specs.declared.turns.Turn.TheVariants.{Flies}
use Rattle.queue_storage.specs.Ids.{counting}
use Rattle.queue_storage.specs.Queues.{Storage, queue_at, turned, flies}
use Rattle.queue_storage.specs.Recorded.{Recorded}
use Rattle.queue_storage.specs.Texts.{queue_text}
use Rattle.queue_storage.proofs.Found.{becomes}
use Rattle.queue_storage.proofs.Keeping.{queue_flown}
use Rattle.queue_storage.proofs.Lookups.{IsAt, queue_found}
use Rattle.queue_storage.proofs.store.QueueStore.set_flight.Goals as goal

pub returns-in-Some-clause-recorded : goal.returns-in-Some-clause-recorded
returns-in-Some-clause-recorded c = λ d h.
    let old : Storage = record { queues = c.self.inside.queues; ids = map counting c.self.inside.ids; forms = c.self.inside.forms } in
    let p = c.args.peer in
    let s = c.args.server in
    let b = becomes (queue_at p s old.queues) (turned (Flies c.args.flight)) c.in-Some.next.queue c.in-Some.ensures.queue in
    let there = queue_found p s old.queues b.item b.found in
    let at : IsAt p s (flies c.args.flight b.item) = record { peer = there.peer; server = there.server } in
    subst (λ (qs : List QueueRecord). Recorded d (record old { queues = qs })) (sym c.in-Some.ensures.place)
    (queue_flown d old p s b.item c.in-Some.next.queue b.found (subst (IsAt p s) b.now at) (ap queue_text (sym b.now)) (subst (Recorded d) (sym c.self.view_is) h))
