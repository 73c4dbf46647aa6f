-- Texts cut at a byte, and their last byte.
use Rattle.std.specs.Prelude.{ℕ, ◌==◌, List, [], ◌∷◌, Bool, false, Option, Some, None, if◌then◌else◌}
use Rattle.std.specs.Option.{option_map}

-- the byte begins the first part
abbrev pub longer : ℕ → List ℕ × List ℕ → List ℕ × List ℕ
longer b parts = (b ∷ parts.0, parts.1)

-- what stands before the first such byte, and what behind it
unfoldable pub cut_of : ℕ → List ℕ → Option (List ℕ × List ℕ)
cut_of byte [] = None
cut_of byte (b ∷ rest) = if b == byte then Some ([], rest) else option_map (longer b) (cut_of byte rest)

abbrev pub ends_with : ℕ → List ℕ → Bool
ends_with byte [] = false
ends_with byte (b ∷ []) = b == byte
ends_with byte (b ∷ c ∷ rest) = ends_with byte (c ∷ rest)

-- without its last byte, if that is this one
abbrev pub without_last : ℕ → List ℕ → List ℕ
without_last byte [] = []
without_last byte (b ∷ []) = if b == byte then [] else b ∷ []
without_last byte (b ∷ c ∷ rest) = b ∷ without_last byte (c ∷ rest)
