-- What holds of the cells of each run holds of all cells that were read of them.
use Rattle.std.proofs.Common.{◌≡◌, Bool, true, false, List, [], ◌∷◌, refl, ap, sym, ◌∙◌, subst}
use Rattle.std.specs.Prelude.{◌||◌, All}
use Rattle.std.specs.List.{list_any}
use Rattle.std.specs.declared.cmp.Ordering.TheVariants.{Equal}
use Rattle.std.specs.Ordering.{is_eq}
use Rattle.std.proofs.lemmas.Cmp.{tied_itself}
use Rattle.std.proofs.lemmas.List.Elements.{All-nil, All-cons, All-head, All-tail, All-weaker, All-filter}
use Rattle.rep_vault.specs.Contents.{Contents}
use Rattle.store_file.specs.declared.cell.RunCell.{RunCell}
use Rattle.store_file.specs.Order.{run_order, are_in_order}
use Rattle.store_file.specs.Spelling.{IsShort, IsTypedCell}
use Rattle.run_cells.specs.Outdone.{counts_in, compacted}
use Rattle.run_cells.proofs.Order.{run_total, eq-Equal}
use Rattle.run_cells.proofs.Parts.{part-in_order}
use Rattle.cell_store.specs.declared.named.NamedRun.{NamedRun}
use Rattle.cell_store.specs.Cells.{named_cells, any_named, any_cell, Holds, AreApart}
use Rattle.cell_store.specs.Compaction.{Survive}
use Rattle.cell_store.specs.Reading.{every_row, AreWanted}
use Rattle.cell_store.specs.Steps.{AreHeld}
use Rattle.cell_store.proofs.Places.{Among, among-head, among-later, all_among, or-first, or-second}

module _ (P : RunCell → Type 0) where
  -- of these cells the one at the place of x is x
  in_cells : (x : RunCell) (cs : List RunCell) → ((y : RunCell) → Among cs y → run_order x y ≡ Equal → x ≡ y) → All P cs → list_any (λ y. is_eq (run_order x y)) cs ≡ true → P x
  in_cells x [] apart h t = absurd (cc)
  in_cells x (y ∷ ys) apart h t =
      (elim (is_eq (run_order x y)) as (λ (b : Bool). is_eq (run_order x y) ≡ b → (b || list_any (λ z. is_eq (run_order x z)) ys) ≡ true → P x) [
        | true ↦ λ e g. subst P (sym (apart y (among-head y ys) (eq-Equal (run_order x y) e))) (All-head P y ys h)
        | false ↦ λ e g. in_cells x ys (λ z i. apart z (among-later y z ys i)) (All-tail P y ys h) g
      ]) refl t

  in_runs : (c : Contents) (x : RunCell) (runs : List NamedRun) → ((y : RunCell) → Holds (any_named c runs) y → run_order x y ≡ Equal → x ≡ y) → All (λ r. All P (named_cells c r)) runs
      → any_named c runs (λ y. is_eq (run_order x y)) ≡ true → P x
  in_runs c x [] apart h t = absurd (cc)
  in_runs c x (r ∷ rs) apart h t =
      (elim (list_any (λ y. is_eq (run_order x y)) (named_cells c r)) as (λ (b : Bool). list_any (λ y. is_eq (run_order x y)) (named_cells c r) ≡ b → (b || any_named c rs (λ y. is_eq (run_order x y))) ≡ true → P x) [
        | true ↦ λ e g.
            in_cells x (named_cells c r) (λ y i. apart y (λ test t. or-first (list_any test (named_cells c r)) (any_named c rs test) (i test t)))
            (All-head (λ q. All P (named_cells c q)) r rs h) e
        | false ↦ λ e g.
            in_runs c x rs (λ y i. apart y (λ test t. or-second (list_any test (named_cells c r)) (any_named c rs test) (i test t)))
            (All-tail (λ q. All P (named_cells c q)) r rs h) g
      ]) refl t

  of_each : (cs : List RunCell) → ((x : RunCell) → Among cs x → P x) → All P cs
  of_each [] h = All-nil P
  of_each (x ∷ xs) h =
      let parts = all_among P x xs h in
      All-cons P x xs parts.0 (of_each xs parts.1)

  of_runs : (c : Contents) (runs : List NamedRun) (all : List RunCell) → AreApart (any_named c runs) → AreWanted every_row (any_named c runs) all → All (λ r. All P (named_cells c r)) runs → All P all
  of_runs c runs all apart m h =
      of_each all (λ x a.
      let there : Holds (any_named c runs) x = λ test t. sym (m.cells test) ∙ a test t in
      in_runs c x runs (λ y i q. apart x y there i q) h (there (λ y. is_eq (run_order x y)) (ap is_eq (tied_itself run_total x))))

  -- so also of those that count
  pub survives : (c : Contents) (runs : List NamedRun) (kept : List RunCell) → AreApart (any_named c runs) → Survive c runs kept → All (λ r. All P (named_cells c r)) runs → All P kept
  survives c runs kept apart s h = subst (All P) (sym s.counts) (All-filter (counts_in s.all) P s.all (of_runs c runs s.all apart s.wants h))

pub typed_kept : (c : Contents) (runs : List NamedRun) (kept : List RunCell) → AreApart (any_named c runs) → Survive c runs kept → All (AreHeld c) runs → All IsTypedCell kept
typed_kept c runs kept apart s h = survives IsTypedCell c runs kept apart s (All-weaker (AreHeld c) (λ r. All IsTypedCell (named_cells c r)) (λ r k. k.typed) runs h)

pub short_kept : (c : Contents) (runs : List NamedRun) (kept : List RunCell) → AreApart (any_named c runs) → Survive c runs kept → All (AreHeld c) runs → All (λ (x : RunCell). IsShort x.kind) kept
short_kept c runs kept apart s h =
    survives (λ (x : RunCell). IsShort x.kind) c runs kept apart s (All-weaker (AreHeld c) (λ r. All (λ (x : RunCell). IsShort x.kind) (named_cells c r)) (λ r k. k.short) runs h)

pub kept_in_order : (c : Contents) (runs : List NamedRun) (kept : List RunCell) → Survive c runs kept → are_in_order kept ≡ true
kept_in_order c runs kept s = ap are_in_order s.counts ∙ part-in_order (counts_in s.all) s.all s.wants.in_order

-- what was gathered without memory
pub survive_so : (c : Contents) (memory : List RunCell) (runs : List NamedRun) (all kept : List RunCell) → memory ≡ [] → AreWanted every_row (any_cell c (record { memory = memory; runs = runs })) all
    → kept ≡ compacted all → Survive c runs kept
survive_so c memory runs all kept none m counts = record {
  all = all;
  wants = subst (λ (ms : List RunCell). AreWanted every_row (any_cell c (record { memory = ms; runs = runs })) all) none m;
  counts = counts;
}

pub apart_so : (c : Contents) (memory : List RunCell) (runs : List NamedRun) → memory ≡ [] → AreApart (any_named c runs) → AreApart (any_cell c (record { memory = memory; runs = runs }))
apart_so c memory runs none apart = subst (λ (ms : List RunCell). AreApart (any_cell c (record { memory = ms; runs = runs }))) (sym none) apart
