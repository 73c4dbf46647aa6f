-- The words of a line: what stands between its spaces.
use Rattle.std.specs.Prelude.{ℕ, Bool, true, false, List, [], ◌∷◌, filter, Result, Ok, Err, if◌then◌else◌}
use Rattle.script_text.specs.declared.rule.Rule.{Rule}
use Rattle.script_text.specs.declared.rule.Rule.TheVariants as rule
use Rattle.script_text.specs.Lines.{pieces_of}
use Rattle.script_text.specs.Steps.{◌>>=◌}

abbrev pub is_word : List ℕ → Bool
is_word [] = false
is_word (b ∷ bs) = true

unfoldable pub words_of : List ℕ → List (List ℕ)
words_of line = filter is_word (pieces_of 32 line)

abbrev pub has_word : List (List ℕ) → Bool
has_word [] = false
has_word (word ∷ words) = true

-- as many words as a command has, or rule 2
unfoldable pub one_word : List (List ℕ) → Result (List ℕ) Rule
one_word [] = Err rule.Words
one_word (a ∷ words) = if has_word words then Err rule.Words else Ok a

unfoldable pub two_words : List (List ℕ) → Result (List ℕ × List ℕ) Rule
two_words [] = Err rule.Words
two_words (a ∷ words) = one_word words >>= λ b. Ok (a, b)

unfoldable pub three_words : List (List ℕ) → Result (List ℕ × List ℕ × List ℕ) Rule
three_words [] = Err rule.Words
three_words (a ∷ words) = two_words words >>= λ (b, c). Ok (a, b, c)

unfoldable pub four_words : List (List ℕ) → Result (List ℕ × List ℕ × List ℕ × List ℕ) Rule
four_words [] = Err rule.Words
four_words (a ∷ words) = three_words words >>= λ (b, c, d). Ok (a, b, c, d)
