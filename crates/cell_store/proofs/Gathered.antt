-- Cells of memory and of runs, put together run by run.
use Rattle.std.proofs.Common.{◌≡◌, ℕ, ◌+◌, ◌≤◌, ◌<◌, zero, suc, Bool, true, false, List, [], ◌∷◌, Some, length, get_or, take, refl, ap, sym, ◌∙◌}
use Rattle.std.specs.Prelude.{◌||◌, ◌&&◌}
use Rattle.std.specs.List.{list_any}
use Rattle.std.specs.declared.cmp.Ordering.TheVariants.{Equal}
use Rattle.std.proofs.lemmas.List.Folds.{list_any_more, list_any_at}
use Rattle.rep_types.specs.declared.state.Call.{Call}
use Rattle.rep_vault.specs.Contents.{Contents}
use Rattle.rep_vault.specs.Tallies.{Tally}
use Rattle.store_file.specs.declared.cell.RunCell.{RunCell}
use Rattle.store_file.specs.Order.{run_order, are_in_order}
use Rattle.store_file.specs.Stored.{run, IsRunOf}
use Rattle.run_cells.specs.Merged.{Agree, IsMerged}
use Rattle.run_cells.proofs.Best.{any_more, any_kept, second-true}
use Rattle.run_cells.proofs.Order.{split-and}
use Rattle.run_cells.proofs.Parts.{part-in_order}
use Rattle.cell_store.specs.declared.named.NamedRun.{NamedRun}
use Rattle.cell_store.specs.Cells.{cells_told, file_cells, named_cells, any_named, any_cell, Holds, AreApart, StoreValue}
use Rattle.cell_store.specs.Reading.{AreWanted}
use Rattle.cell_store.specs.Steps.{of_rows}
use Rattle.cell_store.proofs.Places.{Among, agrees, all_among}

agree_from : (cs ds : List RunCell) → ((c : RunCell) → Among cs c → (d : RunCell) → Among ds d → run_order c d ≡ Equal → c ≡ d) → Agree cs ds
agree_from [] ds h = tt
agree_from (c ∷ cs) ds h =
    let parts = all_among (λ x. (d : RunCell) → Among ds d → run_order x d ≡ Equal → x ≡ d) c cs h in
    (agrees c ds parts.0, agree_from cs ds parts.1)

pub or-lift : (a b c d : Bool) → (a ≡ true → c ≡ true) → (b ≡ true → d ≡ true) → (a || b) ≡ true → (c || d) ≡ true
or-lift true b c d f g h = ap (λ x. x || d) (f refl)
or-lift false b c d f g h = second-true c d (g h)

or-false : (a : Bool) → a ≡ (a || false)
or-false true = refl
or-false false = refl

or_assoc : (a b c : Bool) → ((a || b) || c) ≡ (a || (b || c))
or_assoc true b c = refl
or_assoc false b c = refl

any-take : {X : Type 0} (p : X → Bool) (xs : List X) (i : ℕ) → list_any p (take i xs) ≡ true → list_any p xs ≡ true
any-take p xs zero h = absurd (cc)
any-take p [] (suc i) h = h
any-take p (x ∷ xs) (suc i) h = or-lift (p x) (list_any p (take i xs)) (p x) (list_any p xs) (λ t. t) (any-take p xs i) h

-- the file of a run that stands has its cells
pub file_is : (c : Contents) (r : NamedRun) (all : List RunCell) → IsRunOf c r.name all → file_cells (c.files run r.name) ≡ all
file_is c r all h = ap file_cells h.there ∙ whole
  where
    whole : file_cells (Some h.file) ≡ all
    whole = ap cells_told h.whole

module _ (wanted : List ℕ → Bool) (c : Contents) (memory : List RunCell) (runs : List NamedRun) where
  abbrev store : List NamedRun → StoreValue
  store some = record { memory = memory; runs = some }

  abbrev kept_by : (RunCell → Bool) → RunCell → Bool
  kept_by test x = wanted x.row && test x

  -- memory and the first runs are together
  abbrev pub Together : ℕ → List RunCell → Type 0
  Together i all = AreWanted wanted (any_cell c (store (take i runs))) all

  pub begins : (all : List RunCell) → are_in_order memory ≡ true → all ≡ of_rows wanted memory → Together 0 all
  begins all h e = record {
    in_order = ap are_in_order e ∙ part-in_order (λ x. wanted x.row) memory h;
    cells = λ test. ap (list_any test) e ∙ any_kept test (λ x. wanted x.row) memory ∙ or-false (list_any (kept_by test) memory);
  }

  weaker : (test : RunCell → Bool) (x : RunCell) → kept_by test x ≡ true → test x ≡ true
  weaker test x h = (split-and (wanted x.row) (test x) h).1

  -- what is among the first is among all
  first-holds : (i : ℕ) (all : List RunCell) (x : RunCell) → Together i all → Among all x → Holds (any_cell c (store runs)) x
  first-holds i all x m a = λ test t.
      let told : any_cell c (store (take i runs)) (kept_by test) ≡ true = sym (m.cells test) ∙ a test t in
      or-lift (list_any (kept_by test) memory) (any_named c (take i runs) (kept_by test)) (list_any test memory) (any_named c runs test)
      (any_more (kept_by test) test (weaker test) memory)
      (λ h. any_more (λ r. list_any (kept_by test) (named_cells c r)) (λ r. list_any test (named_cells c r)) (λ r. any_more (kept_by test) test (weaker test) (named_cells c r)) runs
      (any-take (λ r. list_any (kept_by test) (named_cells c r)) runs i h))
      told

  next-holds : (i : ℕ) (d : NamedRun) (part : List RunCell) (x : RunCell) → i < length runs → part ≡ of_rows wanted (named_cells c (get_or runs i d)) → Among part x → Holds (any_cell c (store runs)) x
  next-holds i d part x l e a = λ test t.
      let told : list_any (kept_by test) (named_cells c (get_or runs i d)) ≡ true
      = sym (any_kept test (λ y. wanted y.row) (named_cells c (get_or runs i d))) ∙ ap (list_any test) (sym e) ∙ a test t in
      second-true (list_any test memory) (any_named c runs test)
      (list_any_at (λ r. list_any test (named_cells c r)) runs i d l (any_more (kept_by test) test (weaker test) (named_cells c (get_or runs i d)) told))

  -- the next run's cells agree with those before
  pub agree : (i : ℕ) (d : NamedRun) (all part : List RunCell) → i < length runs → part ≡ of_rows wanted (named_cells c (get_or runs i d)) → AreApart (any_cell c (store runs)) → Together i all → Agree all part
  agree i d all part l e apart m = agree_from all part (λ x a y b q. apart x y (first-holds i all x m a) (next-holds i d part y l e b) q)

  pub goes_on : (i : ℕ) (d : NamedRun) (all part all' : List RunCell) → i < length runs → part ≡ of_rows wanted (named_cells c (get_or runs i d)) → IsMerged all part all' → Together i all → Together (i + 1) all'
  goes_on i d all part all' l e merged m = record {
    in_order = merged.in_order;
    cells = λ test.
        let p : NamedRun → Bool = λ r. list_any (kept_by test) (named_cells c r) in
        merged.cells test
        ∙ ap (λ b. b || list_any test part) (m.cells test)
        ∙ ap (λ b. any_cell c (store (take i runs)) (kept_by test) || b) (ap (list_any test) e ∙ any_kept test (λ y. wanted y.row) (named_cells c (get_or runs i d)))
        ∙ or_assoc (list_any (kept_by test) memory) (list_any p (take i runs)) (p (get_or runs i d))
        ∙ ap (λ b. list_any (kept_by test) memory || b) (sym (list_any_more p runs i d l));
  }

-- no count fell so far, and nothing is planned
pub record Counts (old now : Tally) : Type 0 where
  pub kept : (k : Call) → old.faults k ≤ now.faults k
  pub planned : now.planned ≡ old.planned
