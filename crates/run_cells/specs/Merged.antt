-- Lists of cells in order, put together or cut.
use Rattle.std.specs.Prelude.{◌≡◌, ◌||◌, Bool, true, List, [], ◌∷◌, Option, Some, None}
use Rattle.std.specs.List.{list_any}
use Rattle.std.specs.declared.cmp.Ordering.{Ordering}
use Rattle.std.specs.declared.cmp.Ordering.TheVariants.{Less, Equal, Greater}
use Rattle.rep_types.specs.Range.{Range, range_holds}
use Rattle.store_file.specs.declared.cell.RunCell.{RunCell}
use Rattle.store_file.specs.Order.{run_order, are_in_order}

abbrev pub is_within : Range → RunCell → Bool
is_within range c = range_holds range c.row

-- what stands at the cell's place in the order is that cell
abbrev pub AgreesWith : RunCell → List RunCell → Type 0
AgreesWith c [] = Unit {0}
AgreesWith c (d ∷ ds) = (run_order c d ≡ Equal → c ≡ d) × AgreesWith c ds

-- cells of the two that stand at one place in the order are equal
abbrev pub Agree : List RunCell → List RunCell → Type 0
Agree [] others = Unit {0}
Agree (c ∷ cs) others = AgreesWith c others × Agree cs others

-- The cells of both, in order, each place once: a test that some cell passes is one that a cell of one of the two passes.
pub record IsMerged (left right all : List RunCell) : Type 0 where
  pub in_order : are_in_order all ≡ true
  pub cells : (test : RunCell → Bool) → list_any test all ≡ (list_any test left || list_any test right)

-- The first cell of both was taken; of two at one place the one of the left, and the other is gone.
abbrev pub turned : Ordering → RunCell → List RunCell → RunCell → List RunCell → Option RunCell → List RunCell → List RunCell → Type 0
turned Less c cs d ds taken left right = (taken ≡ Some c) × (left ≡ cs) × (right ≡ d ∷ ds)
turned Equal c cs d ds taken left right = (taken ≡ Some c) × (left ≡ cs) × (right ≡ ds)
turned Greater c cs d ds taken left right = (taken ≡ Some d) × (left ≡ c ∷ cs) × (right ≡ ds)

abbrev pub TakesFirst : List RunCell → List RunCell → Option RunCell → List RunCell → List RunCell → Type 0
TakesFirst [] [] taken left right = taken ≡ None
TakesFirst [] (d ∷ ds) taken left right = (taken ≡ Some d) × (left ≡ []) × (right ≡ ds)
TakesFirst (c ∷ cs) [] taken left right = (taken ≡ Some c) × (left ≡ cs) × (right ≡ [])
TakesFirst (c ∷ cs) (d ∷ ds) taken left right = turned (run_order c d) c cs d ds taken left right

-- whose turn it is: the left's where it is Less
abbrev pub turn : List RunCell → List RunCell → Ordering
turn [] right = Greater
turn (c ∷ cs) [] = Less
turn (c ∷ cs) (d ∷ ds) = run_order c d
