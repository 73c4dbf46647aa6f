use Rattle.std.proofs.Common.{arith, ◌≤◌, length}
use Rattle.std.proofs.lemmas.Grind.{common_steps}
use Rattle.rep_io.proofs.Bytes.{Gives-then}
use Rattle.rep_io.proofs.whole.read_all.Goals as goal

pub returns-then-n-allowed-clause-too_long : goal.returns-then-n-allowed-clause-too_long
returns-then-n-allowed-clause-too_long g c =
    let within : c.in-Ok.n ≤ length c.read.new.buf = omega (arith, c.in-Ok.ensures.within) in
    λ _. (_, Gives-then _ _ _ _ _ c.loop-n.invariant.gives c.in-Ok.ensures.gives, grind (arith, common_steps))

pub returns-then-is_err-clause-memory : goal.returns-then-is_err-clause-memory
returns-then-is_err-clause-memory g c =
    let within : c.in-Ok.n ≤ length c.read.new.buf = omega (arith, c.in-Ok.ensures.within) in
    λ _. (_, Gives-then _ _ _ _ _ c.loop-n.invariant.gives c.in-Ok.ensures.gives, grind (arith, common_steps))
