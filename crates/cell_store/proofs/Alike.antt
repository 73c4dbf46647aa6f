-- Two lists in order of the same cells are equal.
use Rattle.std.proofs.Common.{◌≡◌, Bool, true, false, List, [], ◌∷◌, Ordering, refl, ap, sym, ◌∙◌, subst}
use Rattle.std.specs.Prelude.{◌||◌, ◌&&◌}
use Rattle.std.specs.List.{list_any}
use Rattle.std.specs.declared.cmp.Ordering.TheVariants.{Less, Equal, Greater}
use Rattle.std.specs.Ordering.{is_lt, is_eq}
use Rattle.std.proofs.lemmas.Cmp.{tied_itself}
use Rattle.store_file.specs.declared.cell.RunCell.{RunCell}
use Rattle.store_file.specs.Order.{run_order}
use Rattle.run_cells.proofs.Order.{run_total}
use Rattle.run_cells.proofs.Sorted.{AllBehind, Rises, behind-trans}
use Rattle.cell_store.proofs.Places.{Among, among-head, among-later, below}

-- a test that a cell of the one passes is one that a cell of the other passes
abbrev pub HaveSame : List RunCell → List RunCell → Type 0
HaveSame xs ys = (test : RunCell → Bool) → list_any test xs ≡ list_any test ys

none_at : (x : RunCell) (cs : List RunCell) → AllBehind x cs → list_any (λ c. is_eq (run_order x c)) cs ≡ false
none_at x [] h = refl
none_at x (c ∷ cs) h = ap (λ o. is_eq o || list_any (λ d. is_eq (run_order x d)) cs) h.0 ∙ none_at x cs h.1

all_later : (x : RunCell) (test : RunCell → Bool) (cs : List RunCell) → AllBehind x cs → list_any (λ c. is_lt (run_order x c) && test c) cs ≡ list_any test cs
all_later x test [] h = refl
all_later x test (c ∷ cs) h = λ i. (is_lt (h.0 i) && test c) || all_later x test cs h.1 i

-- the first of one list doesn't come before the first of the other
not_before : (x y : RunCell) (xs ys : List RunCell) → run_order x y ≡ Less → AllBehind y ys → HaveSame (x ∷ xs) (y ∷ ys) → ⊥
not_before x y xs ys l h same =
    let here : list_any (λ c. is_eq (run_order x c)) (x ∷ xs) ≡ true = ap (λ o. is_eq o || list_any (λ d. is_eq (run_order x d)) xs) (tied_itself run_total x) in
    let there : list_any (λ c. is_eq (run_order x c)) (y ∷ ys) ≡ false = none_at x (y ∷ ys) (l, behind-trans x y ys l h) in
    let bad : true ≡ false = sym here ∙ same (λ c. is_eq (run_order x c)) ∙ there in
    cc

not_itself : (x : RunCell) (test : RunCell → Bool) (cs : List RunCell) → list_any (λ c. is_lt (run_order x c) && test c) (x ∷ cs) ≡ list_any (λ c. is_lt (run_order x c) && test c) cs
not_itself x test cs = ap (λ o. (is_lt o && test x) || list_any (λ c. is_lt (run_order x c) && test c) cs) (tied_itself run_total x)

rest_same : (x : RunCell) (xs ys : List RunCell) → AllBehind x xs → AllBehind x ys → HaveSame (x ∷ xs) (x ∷ ys) → HaveSame xs ys
rest_same x xs ys h k same = λ test.
    sym (all_later x test xs h)
    ∙ sym (not_itself x test xs)
    ∙ same (λ c. is_lt (run_order x c) && test c)
    ∙ not_itself x test ys
    ∙ all_later x test ys k

pub equal_lists : (xs ys : List RunCell) → Rises xs → Rises ys → ((a b : RunCell) → Among xs a → Among ys b → run_order a b ≡ Equal → a ≡ b) → HaveSame xs ys → xs ≡ ys
equal_lists [] [] r s apart same = refl
equal_lists [] (y ∷ ys) r s apart same = absurd (let bad : false ≡ true = same (λ c. true) in cc)
equal_lists (x ∷ xs) [] r s apart same = absurd (let bad : true ≡ false = same (λ c. true) in cc)
equal_lists (x ∷ xs) (y ∷ ys) r s apart same =
    (elim (run_order x y) as (λ (o : Ordering). run_order x y ≡ o → x ∷ xs ≡ y ∷ ys) [
      | Less ↦ λ l. absurd (not_before x y xs ys l s.0 same)
      | Equal ↦ λ q.
          let first : x ≡ y = apart x y (among-head x xs) (among-head y ys) q in
          let behind : AllBehind x ys = subst (λ (c : RunCell). AllBehind c ys) (sym first) s.0 in
          let alike : HaveSame (x ∷ xs) (x ∷ ys) = subst (λ (c : RunCell). HaveSame (x ∷ xs) (c ∷ ys)) (sym first) same in
          let rest : xs ≡ ys = equal_lists xs ys r.1 s.1 (λ a b i j. apart a b (among-later x a xs i) (among-later y b ys j)) (rest_same x xs ys r.0 behind alike) in
          λ i. first i ∷ rest i
      | Greater ↦ λ g. absurd (not_before y x ys xs (below x y g) r.0 (λ test. sym (same test)))
    ]) refl
