-- Values and cells.
use Rattle.std.specs.Prelude.{ℕ, List, [], ◌∷◌, ◌++◌, codes, length, nat_le, ◌&&◌, ◌==◌, Bool, Option, Some, None, if◌then◌else◌}
use Rattle.std.specs.List.{list_all}
use Rattle.std.specs.Fmt.{decimal}
use Rattle.rep_types.specs.declared.cell.Cell.{Cell}
use Rattle.rep_types.specs.declared.cell.CellView.{CellView}
use Rattle.rep_types.specs.declared.cell.CellKind.{CellKind}
use Rattle.rep_types.specs.declared.cell.CellKind.TheVariants as kind

abbrev pub are_all : ℕ → List ℕ → Bool
are_all c cs = list_all (λ x. x == c) cs

-- the character of a value of 32 or more equal ones
abbrev pub repeated : List ℕ → Option ℕ
repeated [] = None
repeated (c ∷ cs) = if nat_le 31 (length cs) && are_all c cs then Some c else None

-- a value, or its length and the character that it repeats
abbrev pub spelled : List ℕ → Option ℕ → List ℕ
spelled value None = value
spelled value (Some c) = decimal (length value) ++ codes "*" ++ c ∷ []

-- 32 or more equal characters are told by their number
abbrev pub value_text : List ℕ → List ℕ
value_text value = spelled value (repeated value)

abbrev pub content_text : CellKind → List ℕ
content_text (kind.Put value) = codes "=" ++ value_text value
content_text kind.Erase = codes "!"

-- a cell as a put has it, with a space before it
abbrev pub cell_text : Cell → List ℕ
cell_text c = codes " " ++ c.family ++ codes ":" ++ c.qualifier ++ codes "@" ++ decimal c.stamp ++ content_text c.kind

-- the line of a cell that is shown
abbrev pub view_text : CellView → List ℕ
view_text v = codes "| " ++ v.row ++ codes " " ++ v.family ++ codes ":" ++ v.qualifier ++ codes "@" ++ decimal v.stamp ++ codes "=" ++ value_text v.value ++ 10 ∷ []
