-- The cells of a put.
use Rattle.std.specs.Prelude.{ℕ, ◌+◌, ◌&&◌, ◌||◌, ◌==◌, nat_le, not, Bool, false, List, [], ◌∷◌, length, sum_by, replicate, Option, Some, None, Result, Ok, Err, if◌then◌else◌}
use Rattle.std.specs.List.{list_any, list_all}
use Rattle.std.specs.Option.{ok_or}
use Rattle.std.specs.Str.{bytes_eq}
use Rattle.rep_types.specs.declared.cell.Cell.{Cell}
use Rattle.rep_types.specs.declared.cell.CellKind.{CellKind}
use Rattle.rep_types.specs.declared.cell.CellKind.TheVariants as kind
use Rattle.script_text.specs.declared.cells.Content.{Content}
use Rattle.script_text.specs.declared.cells.Content.TheVariants as content
use Rattle.script_text.specs.declared.cells.Dated.{Dated}
use Rattle.script_text.specs.declared.cells.Draft.{Draft}
use Rattle.script_text.specs.declared.rule.Rule.{Rule}
use Rattle.script_text.specs.declared.rule.Rule.TheVariants as rule
use Rattle.script_text.specs.Cut.{cut_of}
use Rattle.script_text.specs.Forms.{number_of, name_of}
use Rattle.script_text.specs.Lists.{all_of, is_between}
use Rattle.script_text.specs.Steps.{and_then}

-- a letter, a digit, `_` or `.`
abbrev pub is_value_byte : ℕ → Bool
is_value_byte b =
    (nat_le 97 b && nat_le b 122) || ((nat_le 65 b && nat_le b 90) || ((nat_le 48 b && nat_le b 57) || ((b == 95) || (b == 46))))

-- a value written whole
unfoldable pub whole_of : List ℕ → Option Content
whole_of value = if nat_le (length value) 16384 && list_all is_value_byte value then Some (content.Whole value) else None

abbrev pub byte_of : List ℕ → Option ℕ
byte_of (b ∷ []) = if is_value_byte b then Some b else None
byte_of _ = None

-- a value told by its length and the character that it repeats
unfoldable pub repeated_of : List ℕ × List ℕ → Option Content
repeated_of parts = and_then (number_of 0 16384 parts.0) (λ n. and_then (byte_of parts.1) (λ b. Some (content.Repeated n b)))

abbrev pub content_by : Option (List ℕ × List ℕ) → List ℕ → Option Content
content_by None value = whole_of value
content_by (Some parts) value = repeated_of parts

unfoldable pub content_of : List ℕ → Option Content
content_of value = content_by (cut_of 42 value) value

unfoldable pub stamp_of : List ℕ → Option ℕ
stamp_of word = number_of 0 18446744073709551615 word

-- a stamp, and nothing behind the mark of a delete
abbrev pub erased_by : List ℕ × List ℕ → Option Dated
erased_by (stamp, []) = and_then (stamp_of stamp) (λ n. Some (record { stamp = n; content = content.Erase }))
erased_by (stamp, b ∷ rest) = None

unfoldable pub erased_of : List ℕ → Option Dated
erased_of text = and_then (cut_of 33 text) erased_by

abbrev pub dated_by : Option (List ℕ × List ℕ) → List ℕ → Option Dated
dated_by None text = erased_of text
dated_by (Some parts) text = and_then (stamp_of parts.0) (λ n. and_then (content_of parts.1) (λ c. Some (record { stamp = n; content = c })))

-- what stands behind a column: a stamp with a value, or with the mark of a delete
unfoldable pub dated_of : List ℕ → Option Dated
dated_of text = dated_by (cut_of 61 text) text

-- `family:qualifier@stamp=value` or `family:qualifier@stamp!`
unfoldable pub draft_of : List ℕ → Option Draft
draft_of text =
    and_then (cut_of 58 text) (λ front. and_then (cut_of 64 front.1) (λ back. and_then (name_of front.0) (λ f. and_then (name_of back.0) (λ q. and_then (dated_of back.1) (λ d.
    Some (record { family = f; qualifier = q; stamp = d.stamp; content = d.content }))))))

abbrev pub same_column : Draft → Draft → Bool
same_column x y = bytes_eq x.family y.family && bytes_eq x.qualifier y.qualifier

-- two cells have one family and qualifier
abbrev pub repeats_column : List Draft → Bool
repeats_column [] = false
repeats_column (d ∷ ds) = list_any (same_column d) ds || repeats_column ds

unfoldable pub are_drafts : List Draft → Bool
are_drafts ds = is_between (length ds) 64 && not (repeats_column ds)

-- the words of cells
unfoldable pub drafts_word : List (List ℕ) → Result (List Draft) Rule
drafts_word words = ok_or (and_then (all_of draft_of words) (λ ds. if are_drafts ds then Some ds else None)) rule.Parts

-- the bytes that a repeated value stands for
abbrev pub repeated_bytes : Content → ℕ
repeated_bytes (content.Repeated n b) = n
repeated_bytes _ = 0

abbrev pub draft_bytes : Draft → ℕ
draft_bytes d = repeated_bytes d.content

-- the bytes that the repeated values up to here stand for
unfoldable pub used_with : ℕ → List Draft → Result ℕ Rule
used_with used ds = let total = used + sum_by draft_bytes ds in if nat_le total 16777216 then Ok total else Err rule.Repeats

abbrev pub kind_of : Content → CellKind
kind_of (content.Whole value) = kind.Put value
kind_of (content.Repeated n b) = kind.Put (replicate n b)
kind_of content.Erase = kind.Erase

abbrev pub cell_of : Draft → Cell
cell_of d = record { family = d.family; qualifier = d.qualifier; stamp = d.stamp; kind = kind_of d.content }
