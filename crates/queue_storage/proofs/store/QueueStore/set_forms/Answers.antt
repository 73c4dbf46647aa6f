use Rattle.std.proofs.Common.{◌≡◌, List, [], ◌∷◌, map, ap, sym, ◌∙◌, subst}
use Rattle.rep_vault.specs.declared.store.Change.{Change}
use Rattle.rep_vault.specs.Contents.{Contents, with_records}
use Rattle.queue_storage.specs.Ids.{counting}
use Rattle.queue_storage.specs.Queues.{Storage}
use Rattle.queue_storage.specs.Recorded.{Recorded}
use Rattle.queue_storage.proofs.Keeping.{forms_set}
use Rattle.queue_storage.proofs.store.QueueStore.set_forms.Goals as goal

pub returns-clause-recorded : goal.returns-clause-recorded
returns-clause-recorded g c = λ h.
    let before : Contents = g.V.Vault.contents c.args.vault.now in
    let old : Storage = record { queues = c.self.inside.queues; ids = map counting c.self.inside.ids; forms = c.self.inside.forms } in
    let new : Storage = record old { forms = c.args.forms } in
    let put = c.in_ok-put.ensures.ok ∙ ap (λ (x : Change). with_records (x ∷ []) before) c.in_ok-change.ensures in
    subst (λ (b : Contents). Recorded b new) (sym put) (forms_set before old c.args.forms (subst (λ (s : Storage). Recorded before s) (sym c.self.view_is) h))
