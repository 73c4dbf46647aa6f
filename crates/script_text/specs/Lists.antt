-- Lists with commas: the families of a table, and the tables of a peer.
use Rattle.std.specs.Prelude.{ℕ, ◌&&◌, ◌||◌, nat_le, not, Bool, false, List, [], ◌∷◌, codes, length, Option, Some, None, Result, if◌then◌else◌}
use Rattle.std.specs.List.{list_any}
use Rattle.std.specs.Option.{ok_or}
use Rattle.std.specs.Str.{bytes_eq}
use Rattle.rep_types.specs.declared.table.Family.{Family}
use Rattle.script_text.specs.declared.rule.Rule.{Rule}
use Rattle.script_text.specs.declared.rule.Rule.TheVariants as rule
use Rattle.script_text.specs.Cut.{cut_of, ends_with}
use Rattle.script_text.specs.Forms.{name_of}
use Rattle.script_text.specs.Lines.{pieces_of}
use Rattle.script_text.specs.Steps.{and_then}

-- what all texts are read as, if each is read
abbrev pub all_of : {X : Type 0} → (List ℕ → Option X) → List (List ℕ) → Option (List X)
all_of read [] = Some []
all_of read (text ∷ texts) = and_then (read text) (λ x. and_then (all_of read texts) (λ xs. Some (x ∷ xs)))

-- the parts of a list: none where it ends with a comma
abbrev pub parts_of : List ℕ → List (List ℕ)
parts_of word = if ends_with 44 word then [] else pieces_of 44 word

-- at least one, and no more than so many
abbrev pub is_between : ℕ → ℕ → Bool
is_between n most = nat_le 1 n && nat_le n most

-- a name stands twice
abbrev pub repeats_name : List (List ℕ) → Bool
repeats_name [] = false
repeats_name (n ∷ ns) = list_any (bytes_eq n) ns || repeats_name ns

unfoldable pub are_tables : List (List ℕ) → Bool
are_tables names = is_between (length names) 16 && not (repeats_name names)

unfoldable pub tables_word : List ℕ → Result (List (List ℕ)) Rule
tables_word word = ok_or (and_then (all_of name_of (parts_of word)) (λ names. if are_tables names then Some names else None)) rule.Parts

-- a name, a stroke, and a scope of 0 or 1
abbrev pub scope_of : List ℕ → Option ℕ
scope_of text = if bytes_eq text (codes "0") then Some 0 else (if bytes_eq text (codes "1") then Some 1 else None)

unfoldable pub family_of : List ℕ → Option Family
family_of text = and_then (cut_of 47 text) (λ parts. and_then (name_of parts.0) (λ name. and_then (scope_of parts.1) (λ scope. Some (record { name = name; scope = scope }))))

abbrev pub same_family : Family → Family → Bool
same_family f g = bytes_eq f.name g.name

-- a family's name stands twice
abbrev pub repeats_family : List Family → Bool
repeats_family [] = false
repeats_family (f ∷ fs) = list_any (same_family f) fs || repeats_family fs

unfoldable pub are_families : List Family → Bool
are_families fs = is_between (length fs) 16 && not (repeats_family fs)

unfoldable pub specs_word : List ℕ → Result (List Family) Rule
specs_word word = ok_or (and_then (all_of family_of (parts_of word)) (λ fs. if are_families fs then Some fs else None)) rule.Parts
