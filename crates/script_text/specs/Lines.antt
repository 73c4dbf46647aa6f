-- Texts in pieces, and the lines of a script.
use Rattle.std.specs.Prelude.{ℕ, ◌==◌, ◌&&◌, Bool, false, List, [], ◌∷◌, if◌then◌else◌}

-- the byte begins the first piece
abbrev pub add_byte : ℕ → List (List ℕ) → List (List ℕ)
add_byte b [] = (b ∷ []) ∷ []
add_byte b (piece ∷ pieces) = (b ∷ piece) ∷ pieces

-- the pieces of a text, each ended by such a byte, which the last may lack
abbrev pub pieces_of : ℕ → List ℕ → List (List ℕ)
pieces_of end [] = []
pieces_of end (b ∷ rest) = if b == end then [] ∷ pieces_of end rest else add_byte b (pieces_of end rest)

abbrev pub begins_with : ℕ → List ℕ → Bool
begins_with byte [] = false
begins_with byte (b ∷ rest) = b == byte

-- a carriage return directly before a line feed goes
abbrev pub without_returns : List ℕ → List ℕ
without_returns [] = []
without_returns (b ∷ rest) = if b == 13 && begins_with 10 rest then without_returns rest else b ∷ without_returns rest

-- the lines of a text, each ended by a line feed, which the last may lack
unfoldable pub lines_of : List ℕ → List (List ℕ)
lines_of text = pieces_of 10 (without_returns text)
