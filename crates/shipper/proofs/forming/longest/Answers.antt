use Rattle.std.proofs.Common.{◌≡◌, ℕ, ◌+◌, ◌-◌, ◌<◌, ◌≤◌, length, take, slice_get, Some, sym, subst, refl, arith}
use Rattle.std.proofs.lemmas.Option.{slice_get_read}
use Rattle.rep_types.specs.declared.entry.Entry.{Entry}
use Rattle.wal_entry.specs.Length.{frame_length_of}
use Rattle.shipper.specs.Batches.{Gate, gate_of, IsLongest, Reaches}
use Rattle.shipper.proofs.Greatest.{same-admission}
use Rattle.shipper.proofs.Longest.{bytes, bytes-more, one-more, ends-at-most, ends-full, ends-held, some, next-of, goes, held}
use Rattle.shipper.proofs.forming.longest.Goals as goal
use Rattle.shipper.proofs.forming.longest.Goals.{then-entries-most-via-then-entries-most, then-entries-most-via-else-entries-most+then-length-room, then-entries-most-via-else-entries-most+else-length-room+then-not-is_admitted}

-- the batch ends where one of the three tests stops it
stopped : (c : goal.After-drop-so_far-inside)
    → IsLongest (gate_of c.args.serial c.args.view.now.cluster c.args.view.now.barriers.now c.args.view.now.last.now) c.args.most c.args.queue.now c.loop-entry.entry-index
stopped c =
    let gate : Gate = gate_of c.args.serial c.args.view.now.cluster c.args.view.now.barriers.now c.args.view.now.last.now in
    let queue = c.args.queue.now in
    let i = c.loop-entry.entry-index in
    let e : Entry = c.entry-item.result in
    let item : slice_get queue i ≡ Some e = slice_get_read queue (length queue) i e refl c.loop-entry-test.true c.entry-item.is in
    let size : c.entry_length-length.result ≡ frame_length_of e = c.entry_length-length.ensures.value in
    let same = same-admission c.args.serial c.args.view.now.cluster c.args.view.now.barriers.now c.args.view.now.last.now c.loop-entry.so_far (take i queue) e c.loop-entry.invariant.reached in
    elim c.then-entries-most.branch [
      | then-entries-most-via-then-entries-most w ↦ ends-at-most gate c.args.most queue i c.loop-entry.invariant.batch (omega arith)
      | then-entries-most-via-else-entries-most+then-length-room w ↦
          ends-full gate c.args.most queue i c.loop-entry.room e c.loop-entry.invariant.batch c.loop-entry-test.true item c.loop-entry.invariant.room (subst (λ k. c.loop-entry.room < k) size w.if-length-room.true)
      | then-entries-most-via-else-entries-most+else-length-room+then-not-is_admitted w ↦
          ends-held gate c.args.most queue i e c.loop-entry.invariant.batch item (held _ _ w.is_admitted.result same w.is_admitted.ensures w.if-not-is_admitted.true)
    ]

pub returns-then-entries-most-clause-longest : goal.returns-then-entries-most-clause-longest
returns-then-entries-most-clause-longest c =
    subst (IsLongest (gate_of c.args.serial c.args.view.now.cluster c.args.view.now.barriers.now c.args.view.now.last.now) c.args.most c.args.queue.now) (sym c.loop-entry.invariant.counted) (stopped c)

pub returns-then-entries-most-clause-some : goal.returns-then-entries-most-clause-some
returns-then-entries-most-clause-some c =
    let gate : Gate = gate_of c.args.serial c.args.view.now.cluster c.args.view.now.barriers.now c.args.view.now.last.now in
    let queue = c.args.queue.now in
    let i = c.loop-entry.entry-index in
    let e : Entry = c.entry-item.result in
    let item : slice_get queue i ≡ Some e = slice_get_read queue (length queue) i e refl c.loop-entry-test.true c.entry-item.is in
    let short : frame_length_of e ≤ 8224 = subst (λ k. k ≤ 8224) c.entry_length-length.ensures.value c.entry_length-length.ensures.most in
    λ first. subst (λ n. 1 ≤ n) (sym c.loop-entry.invariant.counted) (some gate c.args.most queue i e c.requires (stopped c) item short first)

less : (room size frame before after : ℕ) → size ≡ frame → frame ≤ room → room + before ≡ 65536 → after ≡ before + frame → (room - size) + after ≡ 65536
less room size frame before after same fits left grown = omega arith

pub loop-entry-preserved : goal.loop-entry-preserved
loop-entry-preserved c =
    let gate : Gate = gate_of c.args.serial c.args.view.now.cluster c.args.view.now.barriers.now c.args.view.now.last.now in
    let queue = c.args.queue.now in
    let i = c.loop-entry.entry-index in
    let e : Entry = c.entry-item.result in
    let item : slice_get queue i ≡ Some e = slice_get_read queue (length queue) i e refl c.loop-entry-test.true c.entry-item.is in
    let fits : frame_length_of e ≤ c.loop-entry.room = subst (λ k. k ≤ c.loop-entry.room) c.entry_length-length.ensures.value c.if-length-room.false in
    let below : i ≤ c.args.most = c.loop-entry.invariant.batch.few in
    let few : i < c.args.most = omega arith in
    let same = same-admission c.args.serial c.args.view.now.cluster c.args.view.now.barriers.now c.args.view.now.last.now c.loop-entry.so_far (take i queue) e c.loop-entry.invariant.reached in
    let next : bytes (i + 1) queue ≡ bytes i queue + frame_length_of e = bytes-more i queue e c.loop-entry-test.true item in
    record {
      counted = omega arith;
      batch = one-more gate c.args.most queue i c.loop-entry.room e c.loop-entry.invariant.batch few c.loop-entry-test.true item c.loop-entry.invariant.room fits (goes _ _ c.is_admitted.result same c.is_admitted.ensures c.if-not-is_admitted.false);
      room = less c.loop-entry.room c.entry_length-length.result (frame_length_of e) (bytes i queue) (bytes (i + 1) queue) c.entry_length-length.ensures.value fits c.loop-entry.invariant.room next;
      reached = λ s. subst (Reaches c.follow.new.so_far) (sym (next-of i queue e c.loop-entry-test.true item)) (c.in_ok-follow.ensures.ok (take i queue) s (c.loop-entry.invariant.reached s));
    }
