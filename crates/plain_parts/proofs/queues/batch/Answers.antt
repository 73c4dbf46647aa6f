use Rattle.std.proofs.Common.{◌≡◌, ◌+◌, suc, [], ◌∷◌, List, drop, filter, ap, sym, ◌∙◌, arith}
use Rattle.rep_model.specs.Queues.{is_queued, batch, taken}
use Rattle.rep_model.specs.declared.machine.Commit.{Commit}
use Rattle.plain_parts.proofs.Batches.{fits, taken-none, taken-stop, batch-skip, batch-stop, batch-take, batch-end}
use Rattle.plain_parts.proofs.queues.batch.Goals as goal
use Rattle.plain_parts.proofs.queues.batch.Goals.{then-left-eq0-via-then-left-eq0, then-left-eq0-via-else-left-eq0+then-not-fits, then-is_queued+else-left-eq0+else-not-fits+in_ok-copy_commit+in_ok-push, else-is_queued}

pub returns-then-left-eq0 : goal.returns-then-left-eq0
returns-then-left-eq0 c =
    let p = c.args.peer.now in
    let cs = c.args.commits.now in
    let l = c.loop-commit in
    let x = c.commit-item.result in
    let w = c.after-waiting.result.now in
    let rest = filter (is_queued p c.args.server) (drop (l.commit-index + 1) w) in
    let stops : taken p cs l.left l.room l.taken (x ∷ rest) ≡ [] =
    elim c.then-left-eq0.branch [
      | then-left-eq0-via-then-left-eq0 w ↦ taken-none p cs l.left l.room l.taken (x ∷ rest) w.if-left-eq0.true
      | then-left-eq0-via-else-left-eq0+then-not-fits w ↦
          taken-stop p cs l.left l.room l.taken x rest
          (ap (λ (b : List Commit). fits p cs l.room b x) (sym w.as_slice.ensures) ∙ sym w.fits.ensures.value ∙ w.if-not-fits.true)
    ] in
    batch-stop p cs l.left l.room l.taken (batch p c.args.server c.args.most cs) (is_queued p c.args.server) w l.commit-index x l.invariant c.loop-commit-test.true c.commit-item.is (sym c.is_queued.ensures ∙ c.if-is_queued.true) stops

pub loop-commit-preserved : goal.loop-commit-preserved
loop-commit-preserved c =
    let p = c.args.peer.now in
    let cs = c.args.commits.now in
    let l = c.loop-commit in
    let x = c.commit-item.result in
    let waiting = c.after-waiting.result.now in
    let q = is_queued p c.args.server in
    let whole = batch p c.args.server c.args.most cs in
    elim c.if-is_queued.branch [
      | then-is_queued+else-left-eq0+else-not-fits+in_ok-copy_commit+in_ok-push w ↦
          let more : l.left ≡ suc c.if-is_queued.left = omega (arith, w.left-is, w.if-left-eq0.false) in
          rw (w.taken-is, w.in_ok-push.ensures.ok, w.in_ok-copy_commit.ensures, w.room-is, w.kind_length.ensures.value)
          (batch-take p cs l.left l.room l.taken whole q waiting l.commit-index x c.if-is_queued.left l.invariant c.loop-commit-test.true c.commit-item.is (sym c.is_queued.ensures ∙ w.if-is_queued.true)
          (ap (λ (b : List Commit). fits p cs l.room b x) (sym w.as_slice.ensures) ∙ sym w.fits.ensures.value ∙ w.if-not-fits.false) more)
      | else-is_queued w ↦
          rw (w.taken-is, w.left-is, w.room-is)
          (batch-skip p cs l.left l.room l.taken whole q waiting l.commit-index x l.invariant c.loop-commit-test.true c.commit-item.is (sym c.is_queued.ensures ∙ w.if-is_queued.false))
    ]

pub returns : goal.returns
returns c =
    let p = c.args.peer.now in
    let l = c.loop-commit in
    batch-end p c.args.commits.now l.left l.room l.taken (batch p c.args.server c.args.most c.args.commits.now) (is_queued p c.args.server) c.after-waiting.result.now l.commit-index l.invariant c.loop-commit-test.false
