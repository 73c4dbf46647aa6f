-- Bytes that others begin with.
use Rattle.std.proofs.Common.{◌≡◌, ℕ, List, ◌++◌, length, take, drop, ap, sym, ◌∙◌, append_assoc}
use Rattle.std.proofs.Math.Seq.{take-append_seam}
use Rattle.std.proofs.lemmas.List.{take-append-drop}

-- what was pushed stands behind
pub begins_pushed : (a b more : List ℕ) → b ≡ a ++ more → take (length a) b ≡ a
begins_pushed a b more h = ap (take (length a)) h ∙ take-append_seam a more

pub begins_still : (a b c : List ℕ) → take (length a) b ≡ a → take (length b) c ≡ b → take (length a) c ≡ a
begins_still a b c first then =
    let grown : b ≡ a ++ drop (length a) b = sym (take-append-drop (length a) b) ∙ ap (λ (t : List ℕ). t ++ drop (length a) b) first in
    let whole : c ≡ b ++ drop (length b) c = sym (take-append-drop (length b) c) ∙ ap (λ (t : List ℕ). t ++ drop (length b) c) then in
    begins_pushed a c (drop (length a) b ++ drop (length b) c)
    (whole ∙ ap (λ (t : List ℕ). t ++ drop (length b) c) grown ∙ append_assoc a (drop (length a) b) (drop (length b) c))
