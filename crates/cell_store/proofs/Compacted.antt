-- What counts of some cells shows, beside any others, what all of them show.
use Rattle.std.proofs.Common.{◌≡◌, ℕ, Bool, true, false, List, [], ◌∷◌, ◌++◌, Ordering, refl, ap, sym, ◌∙◌, arith}
use Rattle.std.specs.Prelude.{◌||◌, ◌&&◌, not}
use Rattle.std.specs.List.{list_any, filter_map}
use Rattle.std.specs.declared.cmp.Ordering.TheVariants.{Less, Equal, Greater}
use Rattle.std.specs.Cmp.Lexicographic.{slice_cmp}
use Rattle.std.specs.Ordering.{nat_cmp, ordering_then}
use Rattle.std.proofs.lemmas.List.Folds.{list_any-append}
use Rattle.rep_types.specs.declared.cell.CellView.{CellView}
use Rattle.store_file.specs.declared.cell.RunCell.{RunCell}
use Rattle.store_file.specs.Order.{place_order}
use Rattle.run_cells.specs.Outdone.{is_at, outdone_as, outdone_by, is_outdone, counts_in, compacted, view_of_put, shown}
use Rattle.run_cells.proofs.Best.{any_more, any_kept, compacted_beside}
use Rattle.run_cells.proofs.Order.{eq-Equal, split-and}
use Rattle.run_cells.proofs.Parts.{part-in_order}
use Rattle.run_cells.proofs.Sorted.{rises}
use Rattle.cell_store.specs.Cells.{Holds, AreApart}
use Rattle.cell_store.specs.Reading.{AreWanted, Shows}
use Rattle.cell_store.proofs.Places.{Among}
use Rattle.cell_store.proofs.Alike.{equal_lists}

-- ---- cells of one column are of one row

first_tied : (o p : Ordering) → ordering_then o p ≡ Equal → o ≡ Equal
first_tied Less p h = absurd (cc)
first_tied Equal p h = refl
first_tied Greater p h = absurd (cc)

second_tied : (o p : Ordering) → ordering_then o p ≡ Equal → p ≡ Equal
second_tied Less p h = absurd (cc)
second_tied Equal p h = h
second_tied Greater p h = absurd (cc)

tied_numbers : (a b : ℕ) → nat_cmp a b ≡ Equal → a ≡ b
tied_numbers a b h = grind arith

tied_texts : (a b : List ℕ) → slice_cmp nat_cmp a b ≡ Equal → a ≡ b
tied_texts [] [] h = refl
tied_texts [] (y ∷ ys) h = absurd (cc)
tied_texts (x ∷ xs) [] h = absurd (cc)
tied_texts (x ∷ xs) (y ∷ ys) h =
    let first = tied_numbers x y (first_tied (nat_cmp x y) (slice_cmp nat_cmp xs ys) h) in
    let rest = tied_texts xs ys (second_tied (nat_cmp x y) (slice_cmp nat_cmp xs ys) h) in
    λ i. first i ∷ rest i

one_row : (d e : RunCell) → is_at d e ≡ true → d.row ≡ e.row
one_row d e h = tied_texts d.row e.row (first_tied (slice_cmp nat_cmp d.row e.row) _ (eq-Equal (place_order d e) h))

-- ---- tests

implied : (a b : Bool) → (b ≡ true → a ≡ true) → (a && b) ≡ b
implied true b f = refl
implied false true f = f refl
implied false false f = refl

and_given : (a x y : Bool) → (a ≡ true → x ≡ y) → (a && x) ≡ (a && y)
and_given true x y f = f refl
and_given false x y f = refl

not_first : (a b : Bool) → not (a || b) ≡ true → not a ≡ true
not_first true b h = h
not_first false b h = refl

-- Of all cells, those that aren't in the others are compacted; a read has the wanted ones.
module _ (wanted : List ℕ → Bool) (all others : List RunCell) where
  abbrev whole : List RunCell
  whole = all ++ others

  -- the cell is wanted, counts among all, and passes the test
  abbrev counting : (RunCell → Bool) → RunCell → Bool
  counting test d = wanted d.row && (counts_in whole d && test d)

  wanted_too : (d e : RunCell) → wanted d.row ≡ true → outdone_by d e ≡ true → wanted e.row ≡ true
  wanted_too d e w h = sym (ap wanted (one_row d e (split-and (is_at d e) (outdone_as d e d.kind e.kind) h).0)) ∙ w

  module _ (any : (RunCell → Bool) → Bool) (outdone : (d : RunCell) → any (outdone_by d) ≡ is_outdone whole d) where
    same_outdone : (cells : List RunCell) (d : RunCell) → AreWanted wanted any cells → wanted d.row ≡ true → is_outdone cells d ≡ is_outdone whole d
    same_outdone cells d m w = m.cells (outdone_by d) ∙ (λ i. any (λ e. implied (wanted e.row) (outdone_by d e) (wanted_too d e w) i)) ∙ outdone d

    counted : (cells : List RunCell) → AreWanted wanted any cells → (test : RunCell → Bool) → list_any test (compacted cells) ≡ any (counting test)
    counted cells m test =
        any_kept test (counts_in cells) cells
        ∙ m.cells (λ d. counts_in cells d && test d)
        ∙ (λ i. any (λ d. and_given (wanted d.row) (counts_in cells d && test d) (counts_in whole d && test d) (λ w j. not (same_outdone cells d m w j) && test d) i))

  -- what counts among all counts among some of them
  counts_too : (test : RunCell → Bool) (d : RunCell) → counting test d ≡ true → counts_in all d ≡ true
  counts_too test d h =
      let counts : counts_in whole d ≡ true = (split-and (counts_in whole d) (test d) (split-and (wanted d.row) (counts_in whole d && test d) h).1).0 in
      not_first (is_outdone all d) (is_outdone others d) (ap not (sym (list_any-append (outdone_by d) all others)) ∙ counts)

  none_lost : (test : RunCell → Bool) → list_any (counting test) (compacted all ++ others) ≡ list_any (counting test) whole
  none_lost test =
      list_any-append (counting test) (compacted all) others
      ∙ ap (λ b. b || list_any (counting test) others)
      (any_kept (counting test) (counts_in all) all ∙ (λ i. list_any (λ d. implied (counts_in all d) (counting test d) (counts_too test d) i) all))
      ∙ sym (list_any-append (counting test) all others)

  passes : (test : RunCell → Bool) (d : RunCell) → counting test d ≡ true → test d ≡ true
  passes test d h = (split-and (counts_in whole d) (test d) (split-and (wanted d.row) (counts_in whole d && test d) h).1).1

  module _ (before now : (RunCell → Bool) → Bool) (first : (test : RunCell → Bool) → before test ≡ list_any test whole) (last : (test : RunCell → Bool) → now test ≡ list_any test (compacted all ++ others)) where
    counted_before : (cells : List RunCell) → AreWanted wanted before cells → (test : RunCell → Bool) → list_any test (compacted cells) ≡ list_any (counting test) whole
    counted_before cells m test = counted before (λ d. first (outdone_by d)) cells m test ∙ first (counting test)

    counted_now : (cells : List RunCell) → AreWanted wanted now cells → (test : RunCell → Bool) → list_any test (compacted cells) ≡ list_any (counting test) whole
    counted_now cells m test = counted now (λ d. last (outdone_by d) ∙ compacted_beside all others d) cells m test ∙ last (counting test) ∙ none_lost test

    held : (cells : List RunCell) (c : RunCell) → ((test : RunCell → Bool) → list_any test cells ≡ list_any (counting test) whole) → Among cells c → Holds before c
    held cells c told a = λ test t. first test ∙ any_more (counting test) test (passes test) whole (sym (told test) ∙ a test t)

    pub same_compacted : (cells cells' : List RunCell) → AreApart before → AreWanted wanted before cells → AreWanted wanted now cells' → compacted cells' ≡ compacted cells
    same_compacted cells cells' apart m n =
        equal_lists (compacted cells') (compacted cells)
        (rises (compacted cells') (part-in_order (counts_in cells') cells' n.in_order))
        (rises (compacted cells) (part-in_order (counts_in cells) cells m.in_order))
        (λ a b i j. apart a b (held (compacted cells') a (counted_now cells' n) i) (held (compacted cells) b (counted_before cells m) j))
        (λ test. counted_now cells' n test ∙ sym (counted_before cells m test))

    pub same_shown : (views views' : List CellView) → AreApart before → Shows wanted before views → Shows wanted now views' → views' ≡ views
    unfolding shown
    same_shown views views' apart m n = n.shows ∙ ap (filter_map view_of_put) (same_compacted m.all n.all apart m.wants n.wants) ∙ sym m.shows
