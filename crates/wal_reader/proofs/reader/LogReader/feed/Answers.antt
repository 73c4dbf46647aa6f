use Rattle.std.proofs.Common.{◌+◌, ◌^◌, ◌<◌, length, sym, subst, arith}
use Rattle.std.proofs.lemmas.List.{length-append}
use Rattle.wal_reader.specs.Reader.{Reader, end_of}
use Rattle.wal_entry.proofs.Resumed.{has_seen_more}
use Rattle.wal_reader.proofs.Answered.{still_bad}
use Rattle.wal_reader.proofs.reader.LogReader.feed.Goals as goal

pub invariant_of-self-2 : goal.invariant_of-self-2
invariant_of-self-2 c =
    let piece = c.args.piece.now in
    let left = c.self.inside.left.items in
    let room : c.self.inside.place.offset + length left + length piece < 2 ^ 64 =
    subst (λ (r : Reader). end_of r + length piece < 2 ^ 64) (sym c.self.view_is) c.requires in
    rw c.in_ok-extend_from_slice.ensures.ok (omega (arith, room, length-append left piece), has_seen_more c.self.inside.decoder left piece c.self.invariant.1, still_bad c.self.inside.bad left piece c.self.invariant.2)
