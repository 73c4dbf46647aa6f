-- Bytes that are given and added, one piece after another.
use Rattle.std.proofs.Common.{◌≡◌, ℕ, ◌+◌, ◌-◌, List, ◌++◌, length, take, drop, Option, Some, None, ◌∙◌, ap, sym, arith, append_assoc}
use Rattle.std.specs.Option.{option_map}
use Rattle.std.proofs.lemmas.Grind.{common_steps}
use Rattle.std.proofs.lemmas.List.{take-append-drop, drop-drop}
use Rattle.std.proofs.Math.Seq.{take-add}
use Rattle.rep_io.specs.Io.{Appends, Gives}

-- what is left from a place on is a piece of it, copied over the front of a buffer, and what is left behind the piece
pub given : (bytes piece buf : List ℕ) (at n : ℕ) → piece ≡ take n (drop at bytes) → length piece ≡ n → drop at bytes ≡ take n (piece ++ buf) ++ drop (at + n) bytes
given bytes piece buf at n e l = grind (arith, common_steps, take-append-drop n (drop at bytes), drop-drop)

-- one piece is given and then another
pub Gives-then : (a b c : Option (List ℕ)) (xs ys : List ℕ) → Gives a b xs → Gives b c ys → Gives a c (xs ++ ys)
Gives-then a b None xs ys p q = p ∙ ap (option_map (λ rest. xs ++ rest)) q
Gives-then a b (Some rest) xs ys p q =
    p ∙ ap (option_map (λ rest. xs ++ rest)) q ∙ ap Some (sym (append_assoc xs ys rest))

-- one piece is added and then another
pub Appends-then : (a b c : Option (List ℕ)) (xs ys : List ℕ) → Appends a b xs → Appends b c ys → Appends a c (xs ++ ys)
Appends-then None b c xs ys p q = q ∙ ap (option_map (λ held. held ++ ys)) p
Appends-then (Some held) b c xs ys p q =
    q ∙ ap (option_map (λ held. held ++ ys)) p ∙ ap Some (append_assoc held xs ys)

-- the first bytes from a place on, behind those before it
pub take_then : (i n : ℕ) (xs : List ℕ) → take (i + n) xs ≡ take i xs ++ take n (take (length xs - i) (drop i xs))
take_then i n xs = grind (arith, common_steps, take-add i n xs)
