-- The loop that puts two lists of cells together.
use Rattle.std.proofs.Common.{◌≡◌, Bool, true, false, List, [], ◌∷◌, ◌++◌, Option, Some, None, Ordering, refl, ap, sym, ◌∙◌, subst}
use Rattle.std.specs.Prelude.{◌||◌}
use Rattle.std.specs.List.{list_any}
use Rattle.std.specs.Ordering.{ordering_reverse}
use Rattle.std.specs.declared.cmp.Ordering.TheVariants.{Less, Equal, Greater}
use Rattle.std.proofs.lemmas.List.Folds.{list_any-append}
use Rattle.std.proofs.lemmas.Option.{same_Some}
use Rattle.store_file.specs.declared.cell.RunCell.{RunCell}
use Rattle.store_file.specs.Order.{run_order, are_in_order}
use Rattle.run_cells.specs.Merged.{Agree, IsMerged, turned, TakesFirst}
use Rattle.run_cells.proofs.Order.{run_total}
use Rattle.run_cells.proofs.Sorted.{AllBefore, AllBehind, Rises, behind-trans, rises, ordered}

abbrev EachBefore : List RunCell → List RunCell → Type 0
EachBefore [] ds = Unit {0}
EachBefore (a ∷ cs) ds = AllBehind a ds × EachBefore cs ds

-- some cells are put together, and these are left of both
pub record Merging (left right all low high : List RunCell) : Type 0 where
  pub done : Rises all
  pub under_low : EachBefore all low
  pub under_high : EachBefore all high
  pub low_rises : Rises low
  pub high_rises : Rises high
  pub agree : Agree low high
  pub cells : (test : RunCell → Bool) → (list_any test all || (list_any test low || list_any test high)) ≡ (list_any test left || list_any test right)

each-first : (all : List RunCell) (d : RunCell) (ds : List RunCell) → EachBefore all (d ∷ ds) → AllBefore d all
each-first [] d ds h = tt
each-first (a ∷ cs) d ds h = (h.0.0, each-first cs d ds h.1)

each-rest : (all : List RunCell) (d : RunCell) (ds : List RunCell) → EachBefore all (d ∷ ds) → EachBefore all ds
each-rest [] d ds h = tt
each-rest (a ∷ cs) d ds h = (h.0.1, each-rest cs d ds h.1)

each-more : (all : List RunCell) (c : RunCell) (ds : List RunCell) → EachBefore all ds → AllBehind c ds → EachBefore (all ++ c ∷ []) ds
each-more [] c ds h b = (b, tt)
each-more (a ∷ cs) c ds h b = (h.0, each-more cs c ds h.1 b)

behind-more : (a : RunCell) (cs : List RunCell) (c : RunCell) → AllBehind a cs → run_order a c ≡ Less → AllBehind a (cs ++ c ∷ [])
behind-more a [] c h l = (l, tt)
behind-more a (d ∷ ds) c h l = (h.0, behind-more a ds c h.1 l)

rises-more : (all : List RunCell) (c : RunCell) → Rises all → AllBefore c all → Rises (all ++ c ∷ [])
rises-more [] c r h = (tt, tt)
rises-more (a ∷ cs) c r h = (behind-more a cs c r.0 h.0, rises-more cs c r.1 h.1)

agree-rest : (cs : List RunCell) (d : RunCell) (ds : List RunCell) → Agree cs (d ∷ ds) → Agree cs ds
agree-rest [] d ds h = tt
agree-rest (c ∷ cs) d ds h = (h.0.1, agree-rest cs d ds h.1)

or_assoc : (a b c : Bool) → ((a || b) || c) ≡ (a || (b || c))
or_assoc true b c = refl
or_assoc false b c = refl

or_swap : (a b c : Bool) → (a || (b || c)) ≡ (b || (a || c))
or_swap true true c = refl
or_swap true false c = refl
or_swap false true c = refl
or_swap false false c = refl

or_same : (t b c : Bool) → ((t || b) || (t || c)) ≡ (t || (b || c))
or_same true b c = refl
or_same false b c = refl

or-false : (a : Bool) → (a || false) ≡ a
or-false true = refl
or-false false = refl

module _ (left right : List RunCell) where
  abbrev with_cell : List RunCell → RunCell → List RunCell → List RunCell → (RunCell → Bool) → Bool
  with_cell all c low high test = list_any test all || (test c || (list_any test low || list_any test high))

  more : (all : List RunCell) (c : RunCell) (low high : List RunCell) → Rises all → AllBefore c all → EachBefore all low → EachBefore all high
      → AllBehind c low → AllBehind c high → Rises low → Rises high → Agree low high
      → ((test : RunCell → Bool) → with_cell all c low high test ≡ (list_any test left || list_any test right))
      → Merging left right (all ++ c ∷ []) low high
  more all c low high r b el eh bl bh rl rh a s = record {
    done = rises-more all c r b;
    under_low = each-more all c low el bl;
    under_high = each-more all c high eh bh;
    low_rises = rl;
    high_rises = rh;
    agree = a;
    cells = λ test.
        let rest = list_any test low || list_any test high in
        ap (λ b. b || rest) (list_any-append test all (c ∷ []))
        ∙ or_assoc (list_any test all) (list_any test (c ∷ [])) rest
        ∙ ap (λ b. list_any test all || (b || rest)) (or-false (test c))
        ∙ s test;
  }

  carry : (all : List RunCell) (c d : RunCell) (low low' high high' : List RunCell) → Some d ≡ Some c → low' ≡ low → high' ≡ high
      → Merging left right (all ++ c ∷ []) low high → Merging left right (all ++ d ∷ []) low' high'
  carry all c d low low' high high' e f g m =
      subst (λ (x : RunCell). Merging left right (all ++ x ∷ []) low' high') (sym (same_Some d c e))
      (subst (λ (ds : List RunCell). Merging left right (all ++ c ∷ []) ds high') (sym f)
      (subst (λ (ds : List RunCell). Merging left right (all ++ c ∷ []) low ds) (sym g) m))

  one_right : (all : List RunCell) (d : RunCell) (ds : List RunCell) → Merging left right all [] (d ∷ ds) → Merging left right (all ++ d ∷ []) [] ds
  one_right all d ds m =
      more all d [] ds m.done (each-first all d ds m.under_high) m.under_low (each-rest all d ds m.under_high) tt m.high_rises.0 tt m.high_rises.1 tt m.cells

  one_left : (all : List RunCell) (c : RunCell) (cs : List RunCell) → Merging left right all (c ∷ cs) [] → Merging left right (all ++ c ∷ []) cs []
  one_left all c cs m =
      more all c cs [] m.done (each-first all c cs m.under_low) (each-rest all c cs m.under_low) m.under_high m.low_rises.0 tt m.low_rises.1 tt m.agree.1
      (λ test. ap (λ b. list_any test all || b) (sym (or_assoc (test c) (list_any test cs) false)) ∙ m.cells test)

  lower_left : (all : List RunCell) (c : RunCell) (cs : List RunCell) (d : RunCell) (ds : List RunCell) → run_order c d ≡ Less → Merging left right all (c ∷ cs) (d ∷ ds)
      → Merging left right (all ++ c ∷ []) cs (d ∷ ds)
  lower_left all c cs d ds l m =
      more all c cs (d ∷ ds) m.done (each-first all c cs m.under_low) (each-rest all c cs m.under_low) m.under_high m.low_rises.0 (l, behind-trans c d ds l m.high_rises.0) m.low_rises.1 m.high_rises m.agree.1
      (λ test. ap (λ b. list_any test all || b) (sym (or_assoc (test c) (list_any test cs) (list_any test (d ∷ ds)))) ∙ m.cells test)

  lower_right : (all : List RunCell) (c : RunCell) (cs : List RunCell) (d : RunCell) (ds : List RunCell) → run_order c d ≡ Greater → Merging left right all (c ∷ cs) (d ∷ ds)
      → Merging left right (all ++ d ∷ []) (c ∷ cs) ds
  lower_right all c cs d ds g m =
      let l : run_order d c ≡ Less = run_total.antisymm d c ∙ ap ordering_reverse g in
      more all d (c ∷ cs) ds m.done (each-first all d ds m.under_high) m.under_low (each-rest all d ds m.under_high) (l, behind-trans d c cs l m.low_rises.0) m.high_rises.0 m.low_rises m.high_rises.1 (agree-rest (c ∷ cs) d ds m.agree)
      (λ test. ap (λ b. list_any test all || b) (or_swap (test d) (list_any test (c ∷ cs)) (list_any test ds)) ∙ m.cells test)

  both_same : (all : List RunCell) (c : RunCell) (cs : List RunCell) (d : RunCell) (ds : List RunCell) → run_order c d ≡ Equal → Merging left right all (c ∷ cs) (d ∷ ds)
      → Merging left right (all ++ c ∷ []) cs ds
  both_same all c cs d ds q m =
      let same : c ≡ d = m.agree.0.0 q in
      more all c cs ds m.done (each-first all c cs m.under_low) (each-rest all c cs m.under_low) (each-rest all d ds m.under_high) m.low_rises.0 (subst (λ (x : RunCell). AllBehind x ds) (sym same) m.high_rises.0) m.low_rises.1 m.high_rises.1 (agree-rest cs d ds m.agree.1)
      (λ test.
      ap (λ b. list_any test all || b)
      (sym (or_same (test c) (list_any test cs) (list_any test ds)) ∙ ap (λ x. (test c || list_any test cs) || (test x || list_any test ds)) same)
      ∙ m.cells test)

  goes_on : (all : List RunCell) (e : RunCell) (low high low' high' : List RunCell) → TakesFirst low high (Some e) low' high' → Merging left right all low high
      → Merging left right (all ++ e ∷ []) low' high'
  goes_on all e [] [] low' high' t m = absurd (cc)
  goes_on all e [] (d ∷ ds) low' high' t m = carry all d e [] low' ds high' t.0 t.1 t.2 (one_right all d ds m)
  goes_on all e (c ∷ cs) [] low' high' t m = carry all c e cs low' [] high' t.0 t.1 t.2 (one_left all c cs m)
  goes_on all e (c ∷ cs) (d ∷ ds) low' high' t m = turned_on (run_order c d) refl t
    where
      turned_on : (o : Ordering) → run_order c d ≡ o → turned o c cs d ds (Some e) low' high' → Merging left right (all ++ e ∷ []) low' high'
      turned_on Less l u = carry all c e cs low' (d ∷ ds) high' u.0 u.1 u.2 (lower_left all c cs d ds l m)
      turned_on Equal q u = carry all c e cs low' ds high' u.0 u.1 u.2 (both_same all c cs d ds q m)
      turned_on Greater g u = carry all d e (c ∷ cs) low' ds high' u.0 u.1 u.2 (lower_right all c cs d ds g m)

  ends : (all low high low' high' : List RunCell) → TakesFirst low high None low' high' → Merging left right all low high → IsMerged left right all
  ends all [] [] low' high' t m = record { in_order = ordered all m.done; cells = λ test. sym (or-false (list_any test all)) ∙ m.cells test }
  ends all [] (d ∷ ds) low' high' t m = absurd (cc)
  ends all (c ∷ cs) [] low' high' t m = absurd (cc)
  ends all (c ∷ cs) (d ∷ ds) low' high' t m = absurd (never (run_order c d) t)
    where
      never : (o : Ordering) → turned o c cs d ds None low' high' → ⊥
      never Less u = cc
      never Equal u = cc
      never Greater u = cc

  pub ends_so : (all low high low' high' : List RunCell) (taken : Option RunCell) → TakesFirst low high taken low' high' → ((e : RunCell) → taken ≡ Some e → ⊥) → Merging left right all low high
      → IsMerged left right all
  ends_so all low high low' high' None t f m = ends all low high low' high' t m
  ends_so all low high low' high' (Some e) t f m = absurd (f e refl)

  begins : are_in_order left ≡ true → are_in_order right ≡ true → Agree left right → Merging left right [] left right
  begins l r a = record { done = tt; under_low = tt; under_high = tt; low_rises = rises left l; high_rises = rises right r; agree = a; cells = λ test. refl }

  pub begins_so : (all low high : List RunCell) → are_in_order left ≡ true → are_in_order right ≡ true → Agree left right → all ≡ [] → low ≡ left → high ≡ right → Merging left right all low high
  begins_so all low high l r a e f g =
      subst (λ (cs : List RunCell). Merging left right cs low high) (sym e)
      (subst (λ (cs : List RunCell). Merging left right [] cs high) (sym f)
      (subst (λ (cs : List RunCell). Merging left right [] left cs) (sym g) (begins l r a)))

  pub goes_so : (all all' : List RunCell) (e : RunCell) (low high low' high' : List RunCell) → all' ≡ all ++ e ∷ [] → TakesFirst low high (Some e) low' high' → Merging left right all low high
      → Merging left right all' low' high'
  goes_so all all' e low high low' high' same t m = subst (λ (cs : List RunCell). Merging left right cs low' high') (sym same) (goes_on all e low high low' high' t m)
