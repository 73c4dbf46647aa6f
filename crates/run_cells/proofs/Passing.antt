-- One step of a pass over cells in order.
use Rattle.std.proofs.Common.{◌≡◌, ℕ, ◌+◌, ◌-◌, ◌<◌, zero, suc, Bool, true, false, cond, List, [], ◌∷◌, ◌++◌, length, take, drop, get_or, filter, reverse, Some, refl, ap, sym, ◌∙◌, append-nil, length-drop, arith}
use Rattle.std.specs.Prelude.{◌||◌, not, slice_get, find}
use Rattle.std.specs.List.{list_any, take_while, filter_map}
use Rattle.std.proofs.Math.Seq.{split_at, take_all}
use Rattle.std.proofs.lemmas.List.Elements.{filter_more, filter_map-append}
use Rattle.std.proofs.lemmas.Option.{same_Some}
use Rattle.rep_types.specs.declared.cell.CellKind.TheVariants.{Put, Erase}
use Rattle.rep_types.specs.declared.cell.CellView.{CellView}
use Rattle.store_file.specs.declared.cell.RunCell.{RunCell}
use Rattle.store_file.specs.Order.{are_in_order}
use Rattle.store_file.specs.Run.{last_of}
use Rattle.run_cells.specs.Outdone.{is_twin, is_delete, is_outdone, counts_in, view_of_put}
use Rattle.run_cells.specs.Steps.{has_place}
use Rattle.run_cells.proofs.Sorted.{put_outdone, delete_outdone}

pub there : (cells : List RunCell) (at : ℕ) (d : RunCell) → at < length cells → slice_get cells at ≡ Some (get_or cells at d)
there [] at d h = absurd (omega arith)
there (c ∷ cs) zero d h = refl
there (c ∷ cs) (suc k) d h = there cs k d (omega arith)

at_place : (cells : List RunCell) (at : ℕ) (c : RunCell) → at < length cells → c ≡ get_or cells at c → cells ≡ take at cells ++ c ∷ drop (at + 1) cells
at_place cells at c h e =
    let one : suc at ≡ at + 1 = omega arith in
    split_at cells at c h ∙ (λ i. take at cells ++ sym e i ∷ drop (one i) cells)

same_there : (cells : List RunCell) (at : ℕ) (c d : RunCell) → at < length cells → c ≡ get_or cells at c → slice_get cells at ≡ Some d → d ≡ c
same_there cells at c d h e g = sym (e ∙ same_Some (get_or cells at c) d (sym (there cells at c h) ∙ g))

pub behind_all : (cells : List RunCell) (k : ℕ) → take (length cells - k) (drop k cells) ≡ drop k cells
behind_all cells k = take_all (length cells - k) (drop k cells) (omega (arith, length-drop k cells))

pub put_at : (cells : List RunCell) (at : ℕ) (c d : RunCell) (v : List ℕ) → at < length cells → c ≡ get_or cells at c → are_in_order cells ≡ true → c.kind ≡ Put v → slice_get cells at ≡ Some d
    → is_outdone cells d ≡ (has_place c (last_of (take at cells)) || list_any is_delete (take_while (is_twin c) (drop (at + 1) cells)))
put_at cells at c d v h e order kind g =
    let split = at_place cells at c h e in
    ap (is_outdone cells) (same_there cells at c d h e g)
    ∙ ap (λ cs. is_outdone cs c) split
    ∙ put_outdone (take at cells) c (drop (at + 1) cells) v kind (ap are_in_order (sym split) ∙ order)

pub delete_at : (cells : List RunCell) (at : ℕ) (c d : RunCell) → at < length cells → c ≡ get_or cells at c → are_in_order cells ≡ true → c.kind ≡ Erase → slice_get cells at ≡ Some d
    → is_outdone cells d ≡ has_place c (find is_delete (reverse (take at cells)))
delete_at cells at c d h e order kind g =
    let split = at_place cells at c h e in
    ap (is_outdone cells) (same_there cells at c d h e g)
    ∙ ap (λ cs. is_outdone cs c) split
    ∙ delete_outdone (take at cells) c (drop (at + 1) cells) kind (ap are_in_order (sym split) ∙ order)

kept_step : (cells : List RunCell) (at : ℕ) (c : RunCell) (b : Bool) → at < length cells → c ≡ get_or cells at c → is_outdone cells c ≡ b
    → filter (counts_in cells) (take (at + 1) cells) ≡ filter (counts_in cells) (take at cells) ++ cond (not b) (c ∷ []) []
kept_step cells at c b h e g =
    filter_more (counts_in cells) cells at c h
    ∙ ap (λ x. filter (counts_in cells) (take at cells) ++ cond (counts_in cells x) (x ∷ []) []) (sym e)
    ∙ ap (λ y. filter (counts_in cells) (take at cells) ++ cond (not y) (c ∷ []) []) g

-- a cell that counts is kept, and another isn't
pub one_kept : (cells : List RunCell) (at : ℕ) (c : RunCell) → at < length cells → c ≡ get_or cells at c → is_outdone cells c ≡ false
    → filter (counts_in cells) (take (at + 1) cells) ≡ filter (counts_in cells) (take at cells) ++ c ∷ []
one_kept cells at c h e g = kept_step cells at c false h e g

pub none_kept : (cells : List RunCell) (at : ℕ) (c : RunCell) → at < length cells → c ≡ get_or cells at c → is_outdone cells c ≡ true
    → filter (counts_in cells) (take (at + 1) cells) ≡ filter (counts_in cells) (take at cells)
none_kept cells at c h e g = kept_step cells at c true h e g ∙ append-nil (filter (counts_in cells) (take at cells))

abbrev pub shown_of : List RunCell → List CellView
shown_of cells = filter_map view_of_put cells

-- a cell that counts shows what it shows alone
pub one_shown : (cells : List RunCell) (at : ℕ) (c : RunCell) → at < length cells → c ≡ get_or cells at c → is_outdone cells c ≡ false
    → shown_of (filter (counts_in cells) (take (at + 1) cells)) ≡ shown_of (filter (counts_in cells) (take at cells)) ++ shown_of (c ∷ [])
one_shown cells at c h e g =
    ap shown_of (one_kept cells at c h e g)
    ∙ filter_map-append view_of_put (filter (counts_in cells) (take at cells)) (c ∷ [])

pub passed : (cells : List RunCell) (at : ℕ) (c : RunCell) → at < length cells → c ≡ get_or cells at c → is_outdone cells c ≡ true
    → shown_of (filter (counts_in cells) (take (at + 1) cells)) ≡ shown_of (filter (counts_in cells) (take at cells))
passed cells at c h e g = ap shown_of (none_kept cells at c h e g)
