use Rattle.std.proofs.Common.{refl}
use Rattle.wal_entry.specs.Steps.{place}
use Rattle.wal_entry.proofs.Resumed.{marker_ends}
use Rattle.wal_entry.proofs.decode.front.marker.Goals as goal

pub returns : goal.returns
returns c =
    let q = place c.in_ok-next.next in
    (q, marker_ends c.args.fields c.args.kind c.entry_of.result (place c.args.here) q c.entry_of.ensures c.in_ok-next.ensures, refl)
