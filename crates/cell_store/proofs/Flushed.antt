-- A flush keeps the cells of a store over a vault.
use Rattle.std.proofs.Common.{◌≡◌, ℕ, ◌<◌, ◌^◌, Bool, true, false, List, [], ◌∷◌, length, filter, Some, None, All, Result, Ok, Err, refl, ap, sym, ◌∙◌}
use Rattle.std.specs.Prelude.{◌||◌, OnOk}
use Rattle.std.specs.List.{list_any}
use Rattle.std.proofs.lemmas.List.Folds.{list_any-append}
use Rattle.std.proofs.lemmas.List.Elements.{All-head, All-tail}
use Rattle.rep_vault.specs.Contents.{Contents}
use Rattle.rep_vault.specs.Calls.{IsFree}
use Rattle.wal_roll.specs.Steps.{OnlyFile}
use Rattle.store_file.specs.declared.cell.RunCell.{RunCell}
use Rattle.store_file.specs.declared.error.RunError.{RunError}
use Rattle.store_file.specs.Order.{are_in_order}
use Rattle.store_file.specs.Spelling.{IsShort, IsTypedCell, run_spelling}
use Rattle.store_file.specs.Stored.{run, whole_file, WritesRun}
use Rattle.store_file.proofs.Back.{run_back}
use Rattle.run_cells.specs.Merged.{is_within}
use Rattle.cell_store.specs.declared.named.NamedRun.{NamedRun}
use Rattle.cell_store.specs.Cells.{cells_told, file_cells, named_cells, any_named, any_cell, IsThere, StoreValue}
use Rattle.cell_store.specs.Writing.{all_rows, flushed}

pub or-false : (a : Bool) → (a || false) ≡ a
or-false true = refl
or-false false = refl

or_comm : (a b : Bool) → (a || b) ≡ (b || a)
or_comm true true = refl
or_comm true false = refl
or_comm false true = refl
or_comm false false = refl

all_within : (cs : List RunCell) → filter (is_within all_rows) cs ≡ cs
all_within [] = refl
all_within (c ∷ cs) = ap (λ xs. c ∷ xs) (all_within cs)

-- a new run has the cells that were written
pub written_back : (after : Contents) (name : List ℕ) (cells : List RunCell) → after.files run name ≡ Some (whole_file (run_spelling cells)) → are_in_order cells ≡ true → All IsTypedCell cells
    → All (λ (x : RunCell). IsShort x.kind) cells → length cells < 2 ^ 64 → named_cells after (record { name = name; range = all_rows }) ≡ cells
written_back after name cells written order typed short few =
    let back : file_cells (after.files run name) ≡ cells = ap file_cells written ∙ ap cells_told (run_back cells order typed short few) in
    ap (filter (is_within all_rows)) back ∙ all_within cells

module _ (c after : Contents) (name : List ℕ) (frame : OnlyFile run name c after) (free : IsFree c run name) where
  -- a run that stood isn't the new one
  named-same : (r : NamedRun) → IsThere c r → named_cells after r ≡ named_cells c r
  named-same r there =
      ap (λ f. filter (is_within r.range) (file_cells f))
      (frame.others run r.name (λ _ e. let none : c.files run r.name ≡ None = ap (c.files run) (sym e) ∙ free.absent in let some : c.files run r.name ≡ Some there.1.file = there.1.there in cc))

  runs-same : (test : RunCell → Bool) (runs : List NamedRun) → All (IsThere c) runs → any_named after runs test ≡ any_named c runs test
  runs-same test [] h = refl
  runs-same test (r ∷ rs) h =
      ap (λ cs. list_any test cs || any_named after rs test) (named-same r (All-head (IsThere c) r rs h))
      ∙ ap (λ b. list_any test (named_cells c r) || b) (runs-same test rs (All-tail (IsThere c) r rs h))

  pub flush_keeps : (s : StoreValue) (test : RunCell → Bool) → after.files run name ≡ Some (whole_file (run_spelling s.memory)) → All (IsThere c) s.runs → are_in_order s.memory ≡ true → All IsTypedCell s.memory
      → All (λ (x : RunCell). IsShort x.kind) s.memory → length s.memory < 2 ^ 64 → any_cell after (flushed name s) test ≡ any_cell c s test
  flush_keeps s test written there order typed short few =
      let new : NamedRun = record { name = name; range = all_rows } in
      let whole : named_cells after new ≡ s.memory = written_back after name s.memory written order typed short few in
      list_any-append (λ r. list_any test (named_cells after r)) s.runs (new ∷ [])
      ∙ ap (λ b. b || (list_any test (named_cells after new) || false)) (runs-same test s.runs there)
      ∙ ap (λ b. any_named c s.runs test || b) (or-false (list_any test (named_cells after new)) ∙ ap (list_any test) whole)
      ∙ or_comm (any_named c s.runs test) (list_any test s.memory)

-- as the answer has it
pub keeps_so : {T : Type 0} (c after : Contents) (name : List ℕ) (r : Result T RunError) (s new : StoreValue) → OnlyFile run name c after → OnOk r (new ≡ flushed name s) → WritesRun name s.memory c after r
    → All (IsThere c) s.runs → are_in_order s.memory ≡ true → All (λ (x : RunCell). IsShort x.kind) s.memory → length s.memory < 2 ^ 64
    → OnOk r (All IsTypedCell s.memory → (test : RunCell → Bool) → any_cell after new test ≡ any_cell c s test)
keeps_so c after name (Ok x) s new frame value does there order short few =
    λ typed test. ap (λ (v : StoreValue). any_cell after v test) value ∙ flush_keeps c after name frame does.0 s test does.1 there order typed short few
keeps_so c after name (Err e) s new frame value does there order short few = tt
