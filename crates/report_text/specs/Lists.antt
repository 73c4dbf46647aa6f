-- Lists with commas.
use Rattle.std.specs.Prelude.{ℕ, List, [], ◌∷◌, ◌++◌, codes, flat_map}
use Rattle.std.specs.Fmt.{decimal}
use Rattle.rep_types.specs.declared.table.Family.{Family}

-- the texts of items, with commas between
abbrev pub commas : {X : Type 0} → (X → List ℕ) → List X → List ℕ
commas text [] = []
commas text (x ∷ xs) = text x ++ flat_map (λ y. 44 ∷ text y) xs

-- numbers with commas between, or a dash for none
abbrev pub numbers_text : List ℕ → List ℕ
numbers_text [] = codes "-"
numbers_text (x ∷ xs) = commas decimal (x ∷ xs)

abbrev pub family_text : Family → List ℕ
family_text f = f.name ++ codes "/" ++ decimal f.scope
