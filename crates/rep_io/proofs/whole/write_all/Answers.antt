use Rattle.std.proofs.Common.{arith}
use Rattle.rep_io.proofs.Bytes.{Appends-then, take_then}
use Rattle.rep_io.proofs.whole.write_all.Goals as goal

pub loop-at-preserved : goal.loop-at-preserved
loop-at-preserved g c =
    let more = c.in_ok-n.ensures in
    record {
      within = omega (arith, more.within);
      appends = rw take_then (Appends-then _ _ _ _ _ c.loop-at.invariant.appends more.adds);
      counts = omega (arith, more.never_falls);
    }
