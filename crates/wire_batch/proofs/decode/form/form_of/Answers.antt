use Rattle.std.proofs.Common.{arith}
use Rattle.wal_entry.proofs.Pieces.{cut_is_short}
use Rattle.wire_batch.proofs.Within.{broken_near, frame_within}
use Rattle.wire_batch.proofs.decode.form.form_of.Goals as goal

pub overflow_add-result : goal.overflow_add-result
overflow_add-result c =
    let near = broken_near c.args.here.rest.now c.in-Bad.at c.in-Bad.rule (rw c.in-Bad.is at c.in_ok-at.ensures.exact) in
    omega (arith, near, c.args.here.most)

pub overflow_cast-at : goal.overflow_cast-at
overflow_cast-at c =
    let cut = rw c.in-Short.is at c.in_ok-at.ensures.exact in
    let short = cut_is_short c.args.here.rest.now cut.0 cut.1 in
    omega (arith, short.0, short.1)

pub overflow_add-at : goal.overflow_add-at
overflow_add-at c =
    let cut = rw c.in-Short.is at c.in_ok-at.ensures.exact in
    let short = cut_is_short c.args.here.rest.now cut.0 cut.1 in
    omega (arith, short.0, short.1, c.args.here.most)

pub split_at-requires : goal.split_at-requires
split_at-requires c = frame_within c.args.here.rest.now c.in-Frame.entry c.in-Frame.length (rw c.in-Frame.is at c.in_ok-at.ensures.spelled)
