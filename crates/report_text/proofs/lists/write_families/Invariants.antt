use Rattle.std.proofs.Common.{◌≡◌, ◌++◌, ◌∷◌, take, flat_map}
use Rattle.report_text.specs.Lists.{family_text}
use Rattle.report_text.proofs.lists.write_families.Given as goal

abbrev pub invariant-loop-family : goal.invariant-loop-family
invariant-loop-family l = l.out.items ≡ l.initial.out.items ++ flat_map (λ f. 44 ∷ family_text f) (take l.family-index l.rest)
