-- What a giver and a taker know of their hand.
use Rattle.std.specs.Prelude.{◌≡◌, ℕ, Bool, true, List, Option, Some, None, if◌then◌else◌, length}
use Rattle.crossbeam_queue.specs.Passes.{view, IsPassOf, ruled_capacity}
use Rattle.read_hand.specs.Carrying.{EndsWith}
use Rattle.read_hand.specs.declared.piece.Piece.{Piece}
use Rattle.read_hand.specs.declared.hand.Hand.{Hand}
use Rattle.read_hand.specs.declared.hand.Giver.{Giver}
use Rattle.read_hand.specs.declared.hand.Taker.{Taker}

-- how many pieces the hand can hold at once
abbrev pub capacity_of : Hand → ℕ
capacity_of h = ruled_capacity h.line

abbrev pub IsGiverOf : Hand → Giver → Type 0
IsGiverOf h g = IsPassOf h.line g.pass × ((view g.pass).gives ≡ true)

abbrev pub IsTakerOf : Hand → Taker → Type 0
IsTakerOf h t = IsPassOf h.line t.pass × ((view t.pass).takes ≡ true)

-- the pieces that were put, in order
abbrev pub pieces_put : Giver → List Piece
pieces_put g = (view g.pass).put

-- the pieces that were taken, in order
abbrev pub pieces_taken : Taker → List Piece
pieces_taken t = (view t.pass).taken

-- all pieces that were ever put, which a taker knows once it has met the giver
abbrev pub met : Bool → List Piece → Option (List Piece)
met gives put = if gives then Some put else None

abbrev pub all_put : Taker → Option (List Piece)
all_put t = met (view t.pass).gives (view t.pass).put

-- as many of the last pieces put as this still waited to be taken
abbrev pub HadWaiting : ℕ → List Piece → Type 0
HadWaiting count put = (waiting : List Piece) × (length waiting ≡ count) × EndsWith put waiting
