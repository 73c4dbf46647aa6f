use Rattle.std.proofs.Common.{◌≡◌, ◌++◌, ◌∷◌, take, flat_map}
use Rattle.std.specs.Fmt.{decimal}
use Rattle.report_text.proofs.regions.write_parents.Given as goal

abbrev pub invariant-loop-parent : goal.invariant-loop-parent
invariant-loop-parent l = l.out.items ≡ l.initial.out.items ++ flat_map (λ n. 44 ∷ decimal n) (take l.parent-index l.rest)
