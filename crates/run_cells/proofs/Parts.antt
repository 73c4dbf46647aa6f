-- A part of cells in order is in order.
use Rattle.std.proofs.Common.{◌≡◌, Bool, true, false, cond, List, [], ◌∷◌, filter}
use Rattle.store_file.specs.declared.cell.RunCell.{RunCell}
use Rattle.store_file.specs.Order.{are_in_order}
use Rattle.run_cells.proofs.Sorted.{AllBehind, Rises, rises, ordered}

module _ (test : RunCell → Bool) where
  part-behind : (c : RunCell) (ds : List RunCell) → AllBehind c ds → AllBehind c (filter test ds)
  part-behind c [] h = tt
  part-behind c (d ∷ ds) h =
      elim (test d) as (λ (b : Bool). AllBehind c (cond b (d ∷ filter test ds) (filter test ds))) [
        | true ↦ (h.0, part-behind c ds h.1)
        | false ↦ part-behind c ds h.1
      ]

  part-rises : (ds : List RunCell) → Rises ds → Rises (filter test ds)
  part-rises [] r = tt
  part-rises (d ∷ ds) r =
      elim (test d) as (λ (b : Bool). Rises (cond b (d ∷ filter test ds) (filter test ds))) [
        | true ↦ (part-behind d ds r.0, part-rises ds r.1)
        | false ↦ part-rises ds r.1
      ]

  pub part-in_order : (ds : List RunCell) → are_in_order ds ≡ true → are_in_order (filter test ds) ≡ true
  part-in_order ds h = ordered (filter test ds) (part-rises ds (rises ds h))
