-- The cells of a run are in order.
use Rattle.std.proofs.Common.{◌≡◌, ℕ, ◌-◌, zero, suc, Bool, true, false, List, [], ◌∷◌, ◌++◌, length, drop, Option, Some, None, Result, Ok, Err, refl, ap, sym, ◌∙◌, arith}
use Rattle.std.specs.Prelude.{◌&&◌, nat_lt, if◌then◌else◌, slice_get, IfOk}
use Rattle.store_file.specs.declared.cell.RunCell.{RunCell}
use Rattle.store_file.specs.declared.error.RunError.{RunError}
use Rattle.store_file.specs.Fields.{Read, FieldsValue, fields, is_allowed, cell_of}
use Rattle.store_file.specs.Order.{is_behind, are_behind, are_in_order}
use Rattle.store_file.specs.Run.{Run, Broken, last_of, judged, cells, verdict}
use Rattle.store_file.specs.Stored.{Decodes}
use Rattle.store_file.proofs.Back.{both}
use Rattle.store_file.proofs.Held.{ended_so}

pub last-more : (d e : RunCell) (es : List RunCell) → last_of (d ∷ e ∷ es) ≡ last_of (e ∷ es)
last-more d e es =
    let n : length (d ∷ e ∷ es) - 1 ≡ suc (length (e ∷ es) - 1) = omega arith in
    ap (λ k. slice_get (d ∷ e ∷ es) k) n

behind-push : (b : Option RunCell) (x : RunCell) (xs : List RunCell) (c : RunCell) → are_behind b (x ∷ xs) ≡ true → is_behind (last_of (x ∷ xs)) c ≡ true → are_behind b (x ∷ xs ++ c ∷ []) ≡ true
behind-push b x [] c h g = λ i. (both (is_behind b x) true h).0 i && (g i && true)
behind-push b x (y ∷ ys) c h g =
    let parts = both (is_behind b x) (are_behind (Some x) (y ∷ ys)) h in
    let rest = behind-push (Some x) y ys c parts.1 (ap (λ l. is_behind l c) (sym (last-more x y ys)) ∙ g) in
    λ i. parts.0 i && rest i

in_order-push : (xs : List RunCell) (c : RunCell) → are_in_order xs ≡ true → is_behind (last_of xs) c ≡ true → are_in_order (xs ++ c ∷ []) ≡ true
in_order-push [] c h g = refl
in_order-push (x ∷ xs) c h g = behind-push None x xs c h g

ordered_on : (total more : ℕ) (earlier : List RunCell) (bytes : List ℕ) (all : List RunCell) → are_in_order earlier ≡ true → cells total more earlier bytes ≡ Run all → are_in_order all ≡ true
unfolding cells
ordered_on total zero earlier bytes all order h = ap are_in_order (sym (ended_so total earlier bytes all h)) ∙ order
ordered_on total (suc more) earlier bytes all order h = one (fields bytes) (λ c rest o g. ordered_on total more (earlier ++ c ∷ []) rest all o g) h
  where
    tested : (c : RunCell) (rest : List ℕ) (allowed behind : Bool) → is_behind (last_of earlier) c ≡ behind
        → (are_in_order (earlier ++ c ∷ []) ≡ true → cells total more (earlier ++ c ∷ []) rest ≡ Run all → are_in_order all ≡ true)
        → (if allowed then (if behind then cells total more (earlier ++ c ∷ []) rest else Broken (total - length bytes) 3) else Broken (total - length bytes) 2) ≡ Run all
        → are_in_order all ≡ true
    tested c rest false behind e go g = absurd (cc)
    tested c rest true false e go g = absurd (cc)
    tested c rest true true e go g = go (in_order-push earlier c order e) g

    one : (o : Option (Read FieldsValue)) → ((c : RunCell) (rest : List ℕ) → are_in_order (earlier ++ c ∷ []) ≡ true → cells total more (earlier ++ c ∷ []) rest ≡ Run all → are_in_order all ≡ true)
        → judged total earlier bytes o (λ c rest. cells total more (earlier ++ c ∷ []) rest) ≡ Run all → are_in_order all ≡ true
    one None go g = absurd (cc)
    one (Some r) go g = tested (cell_of r.value) r.rest (is_allowed r.value) (is_behind (last_of earlier) (cell_of r.value)) refl (go (cell_of r.value) r.rest) g

run-in_order : (bytes : List ℕ) (all : List RunCell) → verdict bytes ≡ Run all → are_in_order all ≡ true
unfolding verdict
run-in_order bytes all h = long (nat_lt (length bytes) 8) _ h
  where
    long : (b : Bool) (n : ℕ) → (if b then Broken 0 1 else cells (length bytes) n [] (drop 8 bytes)) ≡ Run all → are_in_order all ≡ true
    long true n g = absurd (cc)
    long false n g = ordered_on (length bytes) n [] (drop 8 bytes) all refl g

-- as the answer has it
pub order_so : (r : Result (List RunCell) RunError) (bytes : List ℕ) → Decodes r (verdict bytes) → IfOk r (λ all. are_in_order all ≡ true)
order_so (Ok all) bytes h = run-in_order bytes all h
order_so (Err e) bytes h = tt
