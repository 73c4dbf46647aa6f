use Rattle.std.proofs.Common.{arith}
use Rattle.wal_entry.specs.Resumed.{edit_with}
use Rattle.wal_entry.proofs.Resumed.{never_refused}
use Rattle.wal_entry.proofs.decode.Decoder.judge.Goals as goal

pub into_entry-requires : goal.into_entry-requires
into_entry-requires c =
    let b = c.judge.new.self in
    let ends = c.in-Ok.ensures.ends in
    never_refused c.args.bytes.now b.fields (edit_with b b.cells) ends.0 (λ i. omega (arith, c.type_inv.bytes i)) ends.1
