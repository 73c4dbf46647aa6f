use Rattle.std.proofs.Common.{length, sym, ap, subst, arith}
use Rattle.std.proofs.lemmas.List.{length-drop}
use Rattle.wal_entry.specs.declared.decode.Decoder.{Decoder}
use Rattle.wal_entry.specs.Resumed.{HasSeen}
use Rattle.wal_entry.proofs.Resumed.{fresh_has_seen}
use Rattle.wal_reader.proofs.Within.{broken_within, frame_within}
use Rattle.wal_reader.proofs.reader.LogReader.read.Goals as goal

pub bad_frame-requires : goal.bad_frame-requires
bad_frame-requires c =
    let bad = c.in-Some.bad in
    let within = broken_within c.self.inside.left.items bad.at bad.rule (rw c.in-Some.is at c.self.invariant.2) in
    omega (arith, within, c.self.invariant.0)

pub advance-requires : goal.advance-requires
advance-requires c =
    let bytes = c.as_slice.result.now in
    let within = frame_within bytes c.in-Frame.entry c.in-Frame.length (rw c.in-Frame.is at c.in_ok-entry.ensures.spelled) in
    omega (arith, within, ap length c.as_slice.ensures)

pub overflow_add-self : goal.overflow_add-self
overflow_add-self c =
    let bytes = c.as_slice.result.now in
    let within = frame_within bytes c.in-Frame.entry c.in-Frame.length (rw c.in-Frame.is at c.in_ok-entry.ensures.spelled) in
    omega (arith, within, ap length c.as_slice.ensures, c.from.ensures, c.self.invariant.0)

pub invariant_of-self-in-Frame : goal.invariant_of-self-in-Frame
invariant_of-self-in-Frame c =
    let bytes = c.as_slice.result.now in
    let within = frame_within bytes c.in-Frame.entry c.in-Frame.length (rw c.in-Frame.is at c.in_ok-entry.ensures.spelled) in
    (omega (arith, within, ap length c.as_slice.ensures, c.from.ensures, c.self.invariant.0, ap length c.advance.ensures.items, length-drop c.in-Frame.length c.self.inside.left.items), subst (λ (d : Decoder). HasSeen d c.advance.new.self.items) (sym (rw c.in-Frame.is at c.in_ok-entry.ensures.done)) (fresh_has_seen c.advance.new.self.items), rw c.in_default.is tt)

pub bad_frame-requires-in-Bad : goal.bad_frame-requires-in-Bad
bad_frame-requires-in-Bad c =
    let bytes = c.as_slice.result.now in
    let within = broken_within bytes c.in-Bad.at c.in-Bad.rule (rw c.in-Bad.is at c.in_ok-entry.ensures.exact) in
    omega (arith, within, ap length c.as_slice.ensures, c.self.invariant.0)
