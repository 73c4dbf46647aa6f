-- What the bytes of a file are: a run's cells, or not a run.
use Rattle.std.specs.Prelude.{ℕ, zero, suc, ◌-◌, nat_lt, List, [], ◌∷◌, ◌++◌, length, slice_get, drop, Option, Some, None, if◌then◌else◌}
use Rattle.byteorder.specs.Endian.{big_number}
use Rattle.store_file.specs.declared.cell.RunCell.{RunCell}
use Rattle.store_file.specs.Order.{is_behind}
use Rattle.store_file.specs.Fields.{Read, FieldsValue, fields, is_allowed, cell_of}

-- Cells; or the place of the first byte of the number or cell that breaks a rule, and the rule: 1 fewer than eight bytes for
-- the number, 2 a cell's fields, 3 the order, 4 bytes after the end, at the first of them, 5 a cell that is cut, at the end.
pub data Verdict : Type 0 where
  Run : List RunCell → Verdict
  Broken : (at rule : ℕ) → Verdict

abbrev pub last_of : List RunCell → Option RunCell
last_of cells = slice_get cells (length cells - 1)

-- The cell that these bytes begin with, of a file of so many bytes, behind the earlier ones: rule 5 first, then 2, then 3.
-- A whole one decides with what comes after it.
abbrev pub judged : ℕ → List RunCell → List ℕ → Option (Read FieldsValue) → (RunCell → List ℕ → Verdict) → Verdict
judged total earlier bytes None after = Broken total 5
judged total earlier bytes (Some r) after =
    if is_allowed r.value then
    (if is_behind (last_of earlier) (cell_of r.value) then after (cell_of r.value) r.rest else Broken (total - length bytes) 3)
    else Broken (total - length bytes) 2

abbrev pub ended : ℕ → List RunCell → List ℕ → Verdict
ended total earlier [] = Run earlier
ended total earlier (b ∷ bytes) = Broken (total - length (b ∷ bytes)) 4

-- so many more cells in these bytes
unfoldable pub cells : ℕ → ℕ → List RunCell → List ℕ → Verdict
cells total zero earlier bytes = ended total earlier bytes
cells total (suc more) earlier bytes = judged total earlier bytes (fields bytes) (λ c rest. cells total more (earlier ++ c ∷ []) rest)

unfoldable pub verdict : List ℕ → Verdict
verdict bytes = if nat_lt (length bytes) 8 then Broken 0 1 else cells (length bytes) (big_number 8 bytes) [] (drop 8 bytes)
