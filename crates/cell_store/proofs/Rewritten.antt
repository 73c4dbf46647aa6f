-- What a store has over a vault once its runs were compacted.
use Rattle.std.proofs.Common.{◌≡◌, ℕ, ◌<◌, ◌^◌, Bool, true, false, List, [], ◌∷◌, ◌++◌, length, refl, ap, sym, ◌∙◌, subst}
use Rattle.std.specs.Prelude.{◌||◌, ◌&&◌, All}
use Rattle.std.specs.List.{list_any}
use Rattle.std.proofs.lemmas.List.Folds.{list_any-append}
use Rattle.std.proofs.lemmas.List.Elements.{All-nil, All-cons}
use Rattle.rep_vault.specs.Contents.{Contents}
use Rattle.store_file.specs.declared.cell.RunCell.{RunCell}
use Rattle.store_file.specs.Order.{are_in_order}
use Rattle.store_file.specs.Spelling.{IsShort, IsTypedCell, run_spelling}
use Rattle.store_file.specs.Stored.{whole_file}
use Rattle.store_file.proofs.Back.{run_back}
use Rattle.run_cells.specs.Outdone.{counts_in, compacted}
use Rattle.run_cells.proofs.Best.{any_more, any_kept}
use Rattle.run_cells.proofs.Order.{split-and}
use Rattle.cell_store.specs.declared.named.NamedRun.{NamedRun}
use Rattle.cell_store.specs.Cells.{named_cells, any_named, any_cell, AreApart, IsThere, StoreValue}
use Rattle.cell_store.specs.Compaction.{Survive, runs_of, IsWritten, IsCompacted, beside, ShowAlike}
use Rattle.cell_store.specs.Writing.{all_rows}
use Rattle.cell_store.proofs.Compacted.{same_shown}
use Rattle.cell_store.proofs.Flushed.{or-false, written_back}
use Rattle.cell_store.proofs.Gathered.{or-lift}
use Rattle.cell_store.proofs.Places.{or-second}

-- cells such as a run can be written of
pub record AreFit (cells : List RunCell) : Type 0 where
  pub order : are_in_order cells ≡ true
  pub typed : All IsTypedCell cells
  pub short : All (λ (x : RunCell). IsShort x.kind) cells
  pub few : length cells < 2 ^ 64

pub fit_so : (kept slice : List RunCell) → slice ≡ kept → are_in_order kept ≡ true → All IsTypedCell kept → All (λ (x : RunCell). IsShort x.kind) kept → length slice < 2 ^ 64 → AreFit kept
fit_so kept slice same order typed short few = record { order = order; typed = typed; short = short; few = subst (λ (cs : List RunCell). length cs < 2 ^ 64) same few }

-- the new run has them
now_named : (c after : Contents) (name : List ℕ) (kept : List RunCell) (test : RunCell → Bool) → IsWritten name kept c after → AreFit kept → any_named after (runs_of name kept) test ≡ list_any test kept
now_named c after name [] test w f = refl
now_named c after name (k ∷ ks) test w f =
    or-false (list_any test (named_cells after (record { name = name; range = all_rows })))
    ∙ ap (list_any test) (written_back after name (k ∷ ks) w.1 f.order f.typed f.short f.few)

now_there : (c after : Contents) (name : List ℕ) (kept : List RunCell) → IsWritten name kept c after → AreFit kept → All (IsThere after) (runs_of name kept)
now_there c after name [] w f = All-nil (IsThere after)
now_there c after name (k ∷ ks) w f =
    All-cons (IsThere after) (record { name = name; range = all_rows }) []
    (k ∷ ks, record { file = whole_file (run_spelling (k ∷ ks)); there = w.1; whole = run_back (k ∷ ks) f.order f.typed f.short f.few })
    (All-nil (IsThere after))

or-turn : (m n k : Bool) → ((m || n) || k) ≡ (n || (m || k))
or-turn true true k = refl
or-turn true false k = refl
or-turn false true k = refl
or-turn false false k = refl

-- memory's cells, the runs', and further ones
together : (test : RunCell → Bool) (memory ran more : List RunCell) → ((list_any test memory || list_any test ran) || list_any test more) ≡ list_any test (ran ++ (memory ++ more))
together test memory ran more =
    or-turn (list_any test memory) (list_any test ran) (list_any test more)
    ∙ ap (λ b. list_any test ran || b) (sym (list_any-append test memory more))
    ∙ sym (list_any-append test ran (memory ++ more))

module _ (name : List ℕ) (c after : Contents) (s new : StoreValue) (m : IsCompacted name c after s new) (f : AreFit m.kept) where
  told_before : (test : RunCell → Bool) → any_named c s.runs test ≡ list_any test m.survive.all
  told_before test = sym (m.survive.wants.cells test)

  told_now : (test : RunCell → Bool) → any_cell after new test ≡ (list_any test s.memory || list_any test (compacted m.survive.all))
  told_now test =
      ap (λ (v : StoreValue). any_cell after v test) m.value
      ∙ ap (λ b. list_any test s.memory || b) (now_named c after name m.kept test m.written f ∙ ap (list_any test) m.survive.counts)

  pub shows_alike : ShowAlike (any_cell c s) (any_cell after new)
  shows_alike = λ wanted more views views' apart one other.
      same_shown wanted m.survive.all (s.memory ++ more) (beside more (any_cell c s)) (beside more (any_cell after new))
      (λ test. ap (λ b. (list_any test s.memory || b) || list_any test more) (told_before test) ∙ together test s.memory m.survive.all more)
      (λ test. ap (λ b. b || list_any test more) (told_now test) ∙ together test s.memory (compacted m.survive.all) more)
      views views' apart one other

  fewer : (test : RunCell → Bool) → any_cell after new test ≡ true → any_cell c s test ≡ true
  fewer test h =
      or-lift (list_any test s.memory) (list_any test (compacted m.survive.all)) (list_any test s.memory) (any_named c s.runs test) (λ t. t)
      (λ t.
      told_before test
      ∙ any_more (λ d. counts_in m.survive.all d && test d) test (λ d g. (split-and (counts_in m.survive.all d) (test d) g).1) m.survive.all (sym (any_kept test (counts_in m.survive.all) m.survive.all) ∙ t))
      (sym (told_now test) ∙ h)

  pub stay_apart : AreApart (any_cell c s) → AreApart (any_cell after new)
  stay_apart apart = λ x y i j. apart x y (λ test t. fewer test (i test t)) (λ test t. fewer test (j test t))

  pub stand : All (IsThere after) new.runs
  stand = subst (All (IsThere after)) (sym (ap (λ (v : StoreValue). v.runs) m.value)) (now_there c after name m.kept m.written f)

-- the runs alone are apart where all cells are
pub runs_apart : (c : Contents) (s : StoreValue) → AreApart (any_cell c s) → AreApart (any_named c s.runs)
runs_apart c s apart = λ x y i j. apart x y (λ test t. or-second (list_any test s.memory) (any_named c s.runs test) (i test t)) (λ test t. or-second (list_any test s.memory) (any_named c s.runs test) (j test t))

-- what the steps leave, put together
abbrev pub compacted_so : (name : List ℕ) (c mid after : Contents) (s : StoreValue) (memory : List RunCell) (ran runs : List NamedRun) (kept slice : List RunCell) → mid ≡ c → memory ≡ s.memory → ran ≡ s.runs → slice ≡ kept
    → Survive c ran kept → IsWritten name slice mid after → runs ≡ runs_of name slice → IsCompacted name c after s (record { memory = memory; runs = runs })
compacted_so name c mid after s memory ran runs kept slice unread same_memory same_runs same survive written named = record {
  kept = kept;
  survive = subst (λ (rs : List NamedRun). Survive c rs kept) same_runs survive;
  written = subst (λ (v : Contents). IsWritten name kept v after) unread (subst (λ (cs : List RunCell). IsWritten name cs mid after) same written);
  value = λ i. record { memory = same_memory i; runs = (named ∙ ap (runs_of name) same) i };
}
