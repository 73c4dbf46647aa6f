use Rattle.std.proofs.Common.{◌≡◌, [], sym, ◌∙◌, subst, refl}
use Rattle.last_ids.specs.declared.ids.LastId.{LastId}
use Rattle.std.proofs.Common.{List}
use Rattle.serial_gate.specs.Gate.{reach}
use Rattle.shipper.specs.Batches.{Gate, gate_of, admission}
use Rattle.shipper.proofs.Greatest.{same-admission}
use Rattle.shipper.proofs.Longest.{answers-first}
use Rattle.shipper.proofs.forming.form_batch.Goals as goal

pub returns-in-Held-clause-formed : goal.returns-in-Held-clause-formed
returns-in-Held-clause-formed c =
    let v = c.args.view.now in
    let gate : Gate = gate_of c.args.serial v.cluster v.barriers.now v.last.now in
    let e = c.in-Some.first.now in
    let told = subst (λ (ids : List LastId). c.admission-2.result ≡ admission c.args.serial v.cluster v.barriers.now (reach v.last.now ids) e) c.new.ensures c.admission-2.ensures in
    let same = same-admission c.args.serial v.cluster v.barriers.now v.last.now [] [] e (λ s r. refl) in
    answers-first gate _ c.args.queue.now e (sym c.in-Some.ensures.value) (sym same ∙ (sym told ∙ c.in-Held.is))

pub returns-clause-formed : goal.returns-clause-formed
returns-clause-formed c =
    let v = c.args.view.now in
    let gate : Gate = gate_of c.args.serial v.cluster v.barriers.now v.last.now in
    let e = c.in-Some.first.now in
    let told = subst (λ (ids : List LastId). c.admission-2.result ≡ admission c.args.serial v.cluster v.barriers.now (reach v.last.now ids) e) c.new.ensures c.admission-2.ensures in
    let same = same-admission c.args.serial v.cluster v.barriers.now v.last.now [] [] e (λ s r. refl) in
    let first = answers-first gate _ c.args.queue.now e (sym c.in-Some.ensures.value) (sym same ∙ (sym told ∙ c.in-Go.is)) in
    (c.in_ok-entries-in-Go.ensures.some first, c.in_ok-entries-in-Go.ensures.longest)
