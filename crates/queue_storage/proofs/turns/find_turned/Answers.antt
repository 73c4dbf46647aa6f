use Rattle.std.proofs.Common.{◌≡◌, Bool, List, position, Option, Some, get_or, option_map, ap, sym, ◌∙◌, subst}
use Rattle.rep_model.proofs.Replacing.{find-absent, replace-at}
use Rattle.queue_storage.specs.declared.record.QueueRecord.{QueueRecord}
use Rattle.queue_storage.specs.declared.turns.NextQueue.{NextQueue}
use Rattle.queue_storage.specs.Queues.{is_queue, turned}
use Rattle.queue_storage.proofs.Found.{indexed}
use Rattle.queue_storage.proofs.turns.find_turned.Goals as goal

pub returns-in_err-at-clause-queue : goal.returns-in_err-at-clause-queue
returns-in_err-at-clause-queue c =
    ap (option_map (λ (t : NextQueue). t.queue)) c.from_residual.ensures
    ∙ sym (ap (option_map (turned c.args.turn.now)) (find-absent (is_queue c.args.peer c.args.server) c.args.queues.now (sym c.in_err-at.ensures)))

pub returns-clause-queue : goal.returns-clause-queue
returns-clause-queue c =
    let x : QueueRecord = c.index-as_slice-at.result in
    let is : x ≡ get_or c.args.queues.now c.in_ok-at.at x = subst (λ (xs : List QueueRecord). x ≡ get_or xs c.in_ok-at.at x) c.as_slice.ensures c.index-as_slice-at.is in
    ap (λ (q : QueueRecord). Some q) c.turned.ensures
    ∙ sym (ap (option_map (turned c.args.turn.now)) (indexed (is_queue c.args.peer c.args.server) c.args.queues.now c.in_ok-at.at x (sym c.in_ok-at.ensures) is))

pub returns-clause-place : goal.returns-clause-place
returns-clause-place c = replace-at (is_queue c.args.peer c.args.server) c.args.queues.now c.in_ok-at.at c.turned.result (sym c.in_ok-at.ensures)
