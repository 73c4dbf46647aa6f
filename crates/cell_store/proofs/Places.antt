-- A cell put at its place among cells in order.
use Rattle.std.proofs.Common.{◌≡◌, ℕ, ◌+◌, ◌<◌, ◌≤◌, zero, suc, Bool, true, false, List, [], ◌∷◌, length, get_or, Result, Ok, Err, Ordering, refl, ap, sym, ◌∙◌, subst, arith}
use Rattle.std.specs.Prelude.{◌||◌, insert, IfOk, IfErr}
use Rattle.std.specs.List.{list_any}
use Rattle.std.specs.List.Sorted.{IsSortedBy, IsBinarySearchResult, IsSearchInRange, IsNonDecreasingBy}
use Rattle.std.specs.declared.cmp.Ordering.TheVariants.{Less, Equal, Greater}
use Rattle.std.specs.Ordering.{match_ordering, ordering_index, ordering_reverse, is_lt}
use Rattle.std.proofs.lemmas.Cmp.{tied_back}
use Rattle.std.proofs.lemmas.List.Sorted.{searchable_from_sorted}
use Rattle.store_file.specs.declared.cell.RunCell.{RunCell}
use Rattle.store_file.specs.Order.{run_order, are_in_order}
use Rattle.run_cells.specs.Merged.{AgreesWith}
use Rattle.run_cells.proofs.Order.{run_total}
use Rattle.run_cells.proofs.Sorted.{AllBehind, Rises, behind-trans, rises, ordered}
use Rattle.cell_store.specs.Cells.{Holds, AreApart}
use Rattle.cell_store.specs.Steps.{placed}

above : (c d : RunCell) → run_order c d ≡ Less → run_order d c ≡ Greater
above c d l = run_total.antisymm d c ∙ ap ordering_reverse l

pub below : (c d : RunCell) → run_order c d ≡ Greater → run_order d c ≡ Less
below c d g = run_total.antisymm d c ∙ ap ordering_reverse g

placed-behind : (b n : RunCell) (cs : List RunCell) → run_order b n ≡ Less → AllBehind b cs → AllBehind b (placed n cs)
placed-behind b n [] l h = (l, tt)
placed-behind b n (c ∷ cs) l h =
    elim (run_order n c) as (λ (o : Ordering). AllBehind b (match_ordering o (n ∷ c ∷ cs) (c ∷ cs) (c ∷ placed n cs))) [
      | Less ↦ (l, h)
      | Equal ↦ h
      | Greater ↦ (h.0, placed-behind b n cs l h.1)
    ]

placed-rises : (n : RunCell) (cs : List RunCell) → Rises cs → Rises (placed n cs)
placed-rises n [] r = (tt, tt)
placed-rises n (c ∷ cs) r =
    (elim (run_order n c) as (λ (o : Ordering). run_order n c ≡ o → Rises (match_ordering o (n ∷ c ∷ cs) (c ∷ cs) (c ∷ placed n cs))) [
      | Less ↦ λ e. ((e, behind-trans n c cs e r.0), r)
      | Equal ↦ λ e. r
      | Greater ↦ λ e. (placed-behind c n cs (below n c e) r.0, placed-rises n cs r.1)
    ]) refl

pub placed-in_order : (n : RunCell) (cs : List RunCell) → are_in_order cs ≡ true → are_in_order (placed n cs) ≡ true
placed-in_order n cs h = ordered (placed n cs) (placed-rises n cs (rises cs h))

or-false : (a : Bool) → (a || false) ≡ a
or-false true = refl
or-false false = refl

or_comm : (a b : Bool) → (a || b) ≡ (b || a)
or_comm true true = refl
or_comm true false = refl
or_comm false true = refl
or_comm false false = refl

or_again : (a b : Bool) → (a || b) ≡ ((a || b) || a)
or_again true b = refl
or_again false true = refl
or_again false false = refl

or_assoc : (a b c : Bool) → (a || (b || c)) ≡ ((a || b) || c)
or_assoc true b c = refl
or_assoc false b c = refl

-- a test that some cell passes is one that some earlier cell or the new one passes
pub placed-any : (test : RunCell → Bool) (n : RunCell) (cs : List RunCell) → AgreesWith n cs → list_any test (placed n cs) ≡ (list_any test cs || test n)
placed-any test n [] h = or-false (test n)
placed-any test n (c ∷ cs) h =
    (elim (run_order n c) as (λ (o : Ordering). run_order n c ≡ o → list_any test (match_ordering o (n ∷ c ∷ cs) (c ∷ cs) (c ∷ placed n cs)) ≡ ((test c || list_any test cs) || test n)) [
      | Less ↦ λ e. or_comm (test n) (test c || list_any test cs)
      | Equal ↦ λ e. or_again (test c) (list_any test cs) ∙ ap (λ x. (test c || list_any test cs) || test x) (sym (h.0 e))
      | Greater ↦ λ e. ap (λ b. test c || b) (placed-any test n cs h.1) ∙ or_assoc (test c) (list_any test cs) (test n)
    ]) refl

behind-at : (c : RunCell) (cs : List RunCell) (k : ℕ) (d : RunCell) → AllBehind c cs → k < length cs → run_order c (get_or cs k d) ≡ Less
behind-at c [] k d h l = absurd (omega arith)
behind-at c (x ∷ xs) zero d h l = h.0
behind-at c (x ∷ xs) (suc k) d h l = behind-at c xs k d h.1 (omega arith)

next-above : (cs : List RunCell) (k : ℕ) (d : RunCell) → Rises cs → suc k < length cs → run_order (get_or cs k d) (get_or cs (suc k) d) ≡ Less
next-above [] k d r h = absurd (omega arith)
next-above (c ∷ cs) zero d r h = behind-at c cs 0 d r.0 (omega arith)
next-above (c ∷ cs) (suc k) d r h = next-above cs k d r.1 (omega arith)

next : (cs : List RunCell) (k : ℕ) (d : RunCell) → Rises cs → k + 1 < length cs → run_order (get_or cs k d) (get_or cs (k + 1) d) ≡ Less
next cs k d r h =
    let one : suc k ≡ k + 1 = omega arith in
    subst (λ n. run_order (get_or cs k d) (get_or cs n d) ≡ Less) one (next-above cs k d r (omega arith))

by_order : (cs : List RunCell) → Rises cs → IsSortedBy (λ a b. is_lt (run_order a b)) cs
by_order cs r k d low h = ap is_lt (above (get_or cs k d) (get_or cs (k + 1) d) (next cs k d r h))

searchable : (n : RunCell) (cs : List RunCell) → Rises cs → IsNonDecreasingBy (λ y. ordering_index (run_order y n)) cs
searchable n cs r = searchable_from_sorted run_total (λ (c : RunCell). c) cs n (by_order cs r)

-- a cell stands at its place
placed-standing : (n : RunCell) (cs : List RunCell) (at : ℕ) (d : RunCell) → Rises cs → at < length cs → run_order (get_or cs at d) n ≡ Equal → placed n cs ≡ cs
placed-standing n [] at d r h q = absurd (omega arith)
placed-standing n (c ∷ cs) zero d r h q =
    let tied : run_order n c ≡ Equal = tied_back run_total c n q in
    ap (λ o. match_ordering o (n ∷ c ∷ cs) (c ∷ cs) (c ∷ placed n cs)) tied
placed-standing n (c ∷ cs) (suc k) d r h q =
    let old = get_or cs k d in
    let higher : run_order n c ≡ Greater = sym (run_total.congr old n c q) ∙ above c old (behind-at c cs k d r.0 (omega arith)) in
    ap (λ o. match_ordering o (n ∷ c ∷ cs) (c ∷ cs) (c ∷ placed n cs)) higher ∙ ap (λ xs. c ∷ xs) (placed-standing n cs k d r.1 (omega arith) q)

-- those before the place come before it, those from there on behind it
placed-absent : (n : RunCell) (cs : List RunCell) (at : ℕ) → at ≤ length cs → ((k : ℕ) (d : RunCell) → k < at → run_order (get_or cs k d) n ≡ Less)
    → ((k : ℕ) (d : RunCell) → at ≤ k → k < length cs → run_order (get_or cs k d) n ≡ Greater) → placed n cs ≡ insert cs at n
placed-absent n [] zero most lower higher = refl
placed-absent n [] (suc k) most lower higher = absurd (omega arith)
placed-absent n (c ∷ cs) zero most lower higher =
    let high : run_order c n ≡ Greater = higher 0 c (omega arith) (omega arith) in
    ap (λ o. match_ordering o (n ∷ c ∷ cs) (c ∷ cs) (c ∷ placed n cs)) (below c n high)
placed-absent n (c ∷ cs) (suc k) most lower higher =
    let low : run_order c n ≡ Less = lower 0 c (omega arith) in
    ap (λ o. match_ordering o (n ∷ c ∷ cs) (c ∷ cs) (c ∷ placed n cs)) (above c n low)
    ∙ ap (λ xs. c ∷ xs) (placed-absent n cs k (omega arith) (λ j d h. lower (suc j) d (omega arith)) (λ j d h m. higher (suc j) d (omega arith) (omega arith)))

-- what a search for the place says of the cells with the new one
pub place_stands : (n : RunCell) (cs : List RunCell) (r : Result ℕ ℕ) → are_in_order cs ≡ true → IsSearchInRange r (length cs) → IsBinarySearchResult (λ c. run_order c n) cs r
    → IfOk r (λ at. placed n cs ≡ cs)
place_stands n cs (Ok at) order bound found = placed-standing n cs at n (rises cs order) bound (found n)
place_stands n cs (Err at) order bound found = tt

pub place_absent : (n : RunCell) (cs : List RunCell) (r : Result ℕ ℕ) → are_in_order cs ≡ true → IsSearchInRange r (length cs) → IsBinarySearchResult (λ c. run_order c n) cs r
    → IfErr r (λ at. placed n cs ≡ insert cs at n)
place_absent n cs (Ok at) order bound found = tt
place_absent n cs (Err at) order bound found =
    let parts = found (searchable n cs (rises cs order)) in
    placed-absent n cs at bound (λ k d h. parts.0 k d (omega arith) h) parts.1

pub or-first : (a b : Bool) → a ≡ true → (a || b) ≡ true
or-first true b h = refl
or-first false b h = absurd (cc)

pub or-second : (a b : Bool) → b ≡ true → (a || b) ≡ true
or-second true b h = refl
or-second false b h = h

-- what is among these cells
abbrev pub Among : List RunCell → RunCell → Type 0
Among cs c = Holds (λ test. list_any test cs) c

pub among-head : (c : RunCell) (cs : List RunCell) → Among (c ∷ cs) c
among-head c cs = λ test t. or-first (test c) (list_any test cs) t

pub among-later : (c d : RunCell) (cs : List RunCell) → Among cs d → Among (c ∷ cs) d
among-later c d cs a = λ test t. or-second (test c) (list_any test cs) (a test t)

pub agrees : (n : RunCell) (cs : List RunCell) → ((d : RunCell) → Among cs d → run_order n d ≡ Equal → n ≡ d) → AgreesWith n cs
agrees n [] h = tt
agrees n (c ∷ cs) h = (h c (among-head c cs), agrees n cs (λ d a. h d (among-later c d cs a)))

pub all_among : (P : RunCell → Type 0) (c : RunCell) (cs : List RunCell) → ((d : RunCell) → Among (c ∷ cs) d → P d) → (P c) × ((d : RunCell) → Among cs d → P d)
all_among P c cs h = (h c (among-head c cs), λ d a. h d (among-later c d cs a))

-- Cells are put in place one by one: these are left, of old and new ones.
pub record Placing (old news cells rest : List RunCell) : Type 0 where
  pub order : are_in_order cells ≡ true
  pub sum : (test : RunCell → Bool) → (list_any test cells || list_any test rest) ≡ (list_any test old || list_any test news)

abbrev any_both : List RunCell → List RunCell → (RunCell → Bool) → Bool
any_both old news test = list_any test old || list_any test news

pub goes_on : (old news cells rest' : List RunCell) (n : RunCell) (rest cells' : List RunCell) → AreApart (any_both old news) → rest ≡ n ∷ rest' → cells' ≡ placed n cells → Placing old news cells rest
    → Placing old news cells' rest'
goes_on old news cells rest' n rest cells' apart taken made m =
    let told : (test : RunCell → Bool) → (list_any test cells || (test n || list_any test rest')) ≡ any_both old news test
    = λ test. ap (λ ds. list_any test cells || list_any test ds) (sym taken) ∙ m.sum test in
    let is_new : Holds (any_both old news) n = λ test t. sym (told test) ∙ or-second (list_any test cells) _ (or-first (test n) (list_any test rest') t) in
    let agree : AgreesWith n cells = agrees n cells (λ d a q. apart n d is_new (λ test t. sym (told test) ∙ or-first (list_any test cells) _ (a test t)) q) in
    record {
      order = ap are_in_order made ∙ placed-in_order n cells m.order;
      sum = λ test.
          ap (λ ds. list_any test ds || list_any test rest') made
          ∙ ap (λ b. b || list_any test rest') (placed-any test n cells agree)
          ∙ sym (or_assoc (list_any test cells) (test n) (list_any test rest'))
          ∙ told test;
    }
