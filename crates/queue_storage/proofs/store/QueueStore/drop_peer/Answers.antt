use Rattle.std.proofs.Common.{ℕ, ◌≡◌, ◌++◌, List, map, filter, ap, sym, ◌∙◌, subst, append_assoc}
use Rattle.rep_vault.specs.declared.store.Change.{Change}
use Rattle.rep_vault.specs.Contents.{Contents, with_records}
use Rattle.last_ids.specs.declared.ids.LastId.{LastId}
use Rattle.queue_storage.specs.declared.record.QueueRecord.{QueueRecord}
use Rattle.queue_storage.specs.Changes.{queue_dropped, last_dropped, peer_dropped}
use Rattle.queue_storage.specs.Ids.{counting, ids_of}
use Rattle.queue_storage.specs.Queues.{Storage, is_of, is_of_another}
use Rattle.queue_storage.specs.Recorded.{Recorded}
use Rattle.queue_storage.proofs.Keeping.{peer_gone, recorded_then}
use Rattle.queue_storage.proofs.Peers.{ids_counting}
use Rattle.queue_storage.proofs.store.QueueStore.drop_peer.Goals as goal

-- the changes, one list after the other
dropped : (p : ℕ) (queues qs : List QueueRecord) (ids : List (List LastId)) (is : List LastId) (with mid all : List Change) → qs ≡ queues → is ≡ ids_of p ids → mid ≡ with ++ map queue_dropped (filter (is_of p) qs)
    → all ≡ mid ++ map (last_dropped p) (counting is) → all ≡ with ++ (map queue_dropped (filter (is_of p) queues) ++ map (last_dropped p) (ids_of p (map counting ids)))
dropped p queues qs ids is with mid all q i m a =
    a ∙ (ap (λ (xs : List Change). xs ++ map (last_dropped p) (counting is)) (m ∙ ap (λ (ys : List QueueRecord). with ++ map queue_dropped (filter (is_of p) ys)) q)
    ∙ (append_assoc with (map queue_dropped (filter (is_of p) queues)) (map (last_dropped p) (counting is))
    ∙ ap (λ (ys : List LastId). with ++ (map queue_dropped (filter (is_of p) queues) ++ map (last_dropped p) ys)) (ap counting i ∙ sym (ids_counting p ids))))

pub returns-clause-records : goal.returns-clause-records
returns-clause-records g c =
    let before : Contents = g.V.Vault.contents c.args.vault.now in
    let p = c.args.peer in
    let changes = dropped p c.self.inside.queues c.as_slice-2.result.now c.self.inside.ids c.as_slice-ids.result.now c.args.with.items c.in_ok-changes.changes.items c.in_ok-changes-2.changes.items c.as_slice-2.ensures
    (c.as_slice-ids.ensures.value ∙ c.of_peer.ensures.value) c.in_ok-changes.ensures c.in_ok-changes-2.ensures in
    c.in_ok-put.ensures.ok ∙ (ap (λ (xs : List Change). with_records xs before) (c.deref.ensures.value ∙ changes) ∙ ap (λ (s : Storage). with_records (c.args.with.items ++ peer_dropped p s) before) c.self.view_is)

pub returns-clause-recorded : goal.returns-clause-recorded
returns-clause-recorded g c = λ h beside.
    let before : Contents = g.V.Vault.contents c.args.vault.now in
    let p = c.args.peer in
    let old : Storage = record { queues = c.self.inside.queues; ids = map counting c.self.inside.ids; forms = c.self.inside.forms } in
    let ids : List (List LastId) = map counting c.drop_of.new.ids in
    let was : Recorded before old = subst (Recorded before) (sym c.self.view_is) h in
    let changes = dropped p c.self.inside.queues c.as_slice-2.result.now c.self.inside.ids c.as_slice-ids.result.now c.args.with.items c.in_ok-changes.changes.items c.in_ok-changes-2.changes.items c.as_slice-2.ensures
    (c.as_slice-ids.ensures.value ∙ c.of_peer.ensures.value) c.in_ok-changes.ensures c.in_ok-changes-2.ensures in
    let others : c.in_ok-next.next ≡ filter (is_of_another p) old.queues = c.in_ok-next.ensures ∙ ap (filter (is_of_another p)) c.as_slice.ensures in
    subst (λ (qs : List QueueRecord). Recorded (g.V.Vault.contents c.put.new.vault) (record old { queues = qs; ids = ids })) (sym others)
    (recorded_then before (g.V.Vault.contents c.put.new.vault) old (record old { queues = filter (is_of_another p) old.queues; ids = ids }) c.args.with.items (peer_dropped p old)
    (c.in_ok-put.ensures.ok ∙ ap (λ (xs : List Change). with_records xs before) (c.deref.ensures.value ∙ changes)) (λ d k. peer_gone d old p ids c.drop_of.ensures.dropped k) was beside)
