use Rattle.std.proofs.Common.{◌≡◌, ◌≤◌, ◌-◌, suc, List, arith}
use Rattle.std.proofs.lemmas.Bool.{le-leb}
use Rattle.cluster_core.specs.declared.parts.Kept.{Kept}
use Rattle.queue_events.specs.Sending.{taken_kept}
use Rattle.queue_events.proofs.Taking.{over, full, too_long, one_more, all_taken}
use Rattle.queue_events.proofs.batching.take.Goals as goal
use Rattle.queue_events.proofs.batching.take.Goals.{then-left-eq0-via-then-left-eq0, then-left-eq0-via-else-left-eq0+then-room-entry}

pub returns-then-left-eq0 : goal.returns-then-left-eq0
returns-then-left-eq0 c =
    let l = c.loop-entry in
    let k : Kept = c.entry-item.result in
    let ks : List Kept = c.args.kept.now in
    let whole : List Kept = taken_kept c.args.most 65536 ks in
    elim c.then-left-eq0.branch [
      | then-left-eq0-via-then-left-eq0 w ↦ full l.left l.room l.taken whole _ l.invariant w.if-left-eq0.true
      | then-left-eq0-via-else-left-eq0+then-room-entry w ↦
          too_long l.left l.room l.taken whole ks l.entry-index k l.invariant c.loop-entry-test.true c.entry-item.is (over k.length l.room (omega (arith, w.if-room-entry.true)))
    ]

pub loop-entry-preserved : goal.loop-entry-preserved
loop-entry-preserved c =
    let l = c.loop-entry in
    let k : Kept = c.entry-item.result in
    let ks : List Kept = c.args.kept.now in
    let fits : k.length ≤ l.room = omega (arith, c.if-room-entry.false) in
    let more : l.left ≡ suc (l.left - 1) = omega (arith, c.if-left-eq0.false) in
    rw c.in_ok-push.ensures.ok
    (one_more l.left (l.left - 1) l.room l.taken (taken_kept c.args.most 65536 ks) ks l.entry-index k l.invariant c.loop-entry-test.true c.entry-item.is (le-leb k.length l.room fits) more)

pub returns : goal.returns
returns c =
    let l = c.loop-entry in
    all_taken l.left l.room l.taken (taken_kept c.args.most 65536 c.args.kept.now) c.args.kept.now l.entry-index l.invariant c.loop-entry-test.false
