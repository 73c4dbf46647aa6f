-- Reading cells one after the other, as a loop does.
use Rattle.std.proofs.Common.{◌≡◌, ℕ, suc, ◌+◌, ◌-◌, ◌<◌, ◌≤◌, List, [], ◌∷◌, ◌++◌, refl, arith}
use Rattle.rep_types.specs.declared.cell.Cell.{Cell}
use Rattle.wal_entry.specs.declared.decode.cursor.Stop.{Stop}
use Rattle.wal_entry.specs.declared.decode.cursor.Stop.TheVariants as stop
use Rattle.wal_entry.specs.Judging.{Place, Verdict, Whole, and_then, judge}
use Rattle.wal_entry.specs.Frame.{cell, cells}
use Rattle.wal_entry.specs.Steps.{Stops}

-- a step that stops, stops what begins with it
pub Stops-then : {X Y : Type 0} (e : Stop) (v : Verdict X) (after : X → Place → Verdict Y) → Stops e v → Stops e (and_then v after)
Stops-then (stop.Bad at rule) v after h = rw h refl
Stops-then (stop.Short until) v after h = rw h refl
Stops-then stop.Memory v after h = tt

pub one_more : (count i : ℕ) (earlier : List Cell) (p q : Place) (c : Cell) → i < count → judge (cell earlier) p ≡ Whole c q
    → judge (cells (count - i) earlier) p ≡ judge (cells (count - (i + 1)) (earlier ++ c ∷ [])) q
unfolding cells
one_more count i earlier p q c lt h =
    let k : count - i ≡ suc (count - (i + 1)) = omega arith in
    rw (k, h) refl

pub Stops-cells : (e : Stop) (count i : ℕ) (earlier : List Cell) (p : Place) → i < count → Stops e (judge (cell earlier) p) → Stops e (judge (cells (count - i) earlier) p)
unfolding cells
Stops-cells e count i earlier p lt h =
    let k : count - i ≡ suc (count - (i + 1)) = omega arith in
    rw k (Stops-then e (judge (cell earlier) p) (λ c q. judge (cells (count - (i + 1)) (earlier ++ c ∷ [])) q) h)

pub none_left : (count i : ℕ) (earlier : List Cell) (p : Place) → count ≤ i → judge (cells (count - i) earlier) p ≡ Whole earlier p
unfolding cells
none_left count i earlier p le =
    let k : count - i ≡ 0 = omega arith in
    rw k refl
