-- What was put is what was taken and then what the queue holds. One pass at most gives, and knows what was put. One at most takes, and knows what was taken.
use Rattle.std.specs.Prelude.{◌≡◌, ℕ, Bool, true, List, ◌++◌}
use mathlib.Core.Option.{some}
use lib.ListN.{get_elem?}
use Rattle.read_hand.specs.declared.piece.Piece.{Piece}
use Rattle.read_hand.specs.declared.rule.Carried.{Carried}

abbrev pub carried : Bool → Bool → List Piece → List Piece → Carried
carried gives takes put taken = record { gives = gives; takes = takes; put = put; taken = taken }

-- the last of these are those
abbrev pub EndsWith : List Piece → List Piece → Type 0
EndsWith all last = (before : List Piece) × (before ++ last ≡ all)

abbrev pub Fits : ℕ → ℕ → List Piece → List Piece → ℕ → Carried → Type 0
Fits giver taker put taken pass v = (v.gives ≡ true → (pass ≡ giver) × (v.put ≡ put)) × (v.takes ≡ true → (pass ≡ taker) × (v.taken ≡ taken))

abbrev pub Carries : List Piece → List Carried → Type 0
Carries items views = (giver : ℕ) × (taker : ℕ) × (put : List Piece) × (taken : List Piece) × (put ≡ taken ++ items)
    × ((pass : ℕ) (v : Carried) → get_elem? views pass ≡ some v → Fits giver taker put taken pass v)
