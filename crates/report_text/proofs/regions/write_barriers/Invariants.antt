use Rattle.std.proofs.Common.{◌≡◌, ◌++◌, ◌∷◌, take, flat_map}
use Rattle.std.specs.Fmt.{decimal}
use Rattle.report_text.proofs.regions.write_barriers.Given as goal

abbrev pub invariant-loop-barrier : goal.invariant-loop-barrier
invariant-loop-barrier l = l.out.items ≡ l.initial.out.items ++ flat_map (λ n. 44 ∷ decimal n) (take l.barrier-index l.rest)
