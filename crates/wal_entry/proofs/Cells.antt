-- The cells of an edit, both ways.
use Rattle.std.proofs.Common.{◌≡◌, ℕ, zero, suc, ◌≤◌, Bool, true, false, ◌||◌, List, [], ◌∷◌, ◌++◌, length, refl, sym, ap, ◌∙◌, append_assoc, arith}
use Rattle.std.specs.List.{list_any, AllByRecursion}
use Rattle.std.proofs.lemmas.List.{append-nil}
use Rattle.std.proofs.lemmas.List.Concat.{flat_map-cons}
use Rattle.std.proofs.lemmas.List.Folds.{list_any-append}
use Rattle.rep_types.specs.declared.cell.Cell.{Cell}
use Rattle.rep_types.specs.Edit.{same_column, repeats}
use Rattle.wal_entry.specs.Judging.{Place, Whole, judge}
use Rattle.wal_entry.specs.Frame.{has_column, cells}
use Rattle.wal_entry.specs.Spelling.{cell_spelling, cells_spelling}
use Rattle.wal_entry.proofs.Cell.{FitsCell, cell_takes, cell_again}
use Rattle.wal_entry.proofs.Items.{and_then_whole, of_whole}
use Rattle.wal_entry.proofs.Places.{IsBytes, IsBytes-passed, Passes, Passes-nothing, Passes-both, Passes-first, Passes-second, between, same_place}

-- ---- repeated columns

or_false : (a b : Bool) → (a || b) ≡ false → (a ≡ false) × (b ≡ false)
or_false true b e = absurd (cc)
or_false false b e = (refl, e)

shuffled : (a b c d : Bool) → ((a || (b || false)) || (c || d)) ≡ ((a || c) || (b || d))
shuffled true b c d = refl
shuffled false true true d = refl
shuffled false true false d = refl
shuffled false false true d = refl
shuffled false false false d = refl

repeats-push : (cs : List Cell) (x : Cell) → repeats (cs ++ x ∷ []) ≡ (repeats cs || has_column cs x.family x.qualifier)
repeats-push [] x = refl
repeats-push (c ∷ cs) x =
    rw (list_any-append (same_column c) cs (x ∷ []), repeats-push cs x)
    (shuffled (list_any (same_column c) cs) (same_column c x) (repeats cs) (has_column cs x.family x.qualifier))

-- of different columns, one is none of those before
new_column : (xs : List Cell) (c : Cell) (cs : List Cell) → repeats (xs ++ c ∷ cs) ≡ false → has_column xs c.family c.qualifier ≡ false
new_column [] c cs h = refl
new_column (x ∷ xs) c cs h =
    let parts = or_false (list_any (same_column x) (xs ++ c ∷ cs)) (repeats (xs ++ c ∷ cs)) h in
    let later = or_false (list_any (same_column x) xs) (list_any (same_column x) (c ∷ cs)) (sym (list_any-append (same_column x) xs (c ∷ cs)) ∙ parts.0) in
    let here = or_false (same_column x c) (list_any (same_column x) cs) later.1 in
    rw (here.0, new_column xs c cs parts.1) refl

-- ---- cells

-- cells after the earlier ones
pub record AreCellsAt (p : Place) (count : ℕ) (earlier all : List Cell) (q : Place) : Type 0 where
  pub more : List Cell
  pub whole : all ≡ earlier ++ more
  pub counted : length more ≡ count
  pub passes : Passes p (cells_spelling more) q
  pub fits : AllByRecursion FitsCell more
  pub distinct : repeats earlier ≡ false → repeats all ≡ false
  pub within : q.at ≤ q.end

pub cells_take : (count : ℕ) (earlier all : List Cell) (p q : Place) → IsBytes p.rest → p.at ≤ p.end → judge (cells count earlier) p ≡ Whole all q → AreCellsAt p count earlier all q
unfolding cells
cells_take zero earlier all p q fits room h =
    of_whole (λ all q. AreCellsAt p 0 earlier all q) earlier all p q h (record {
      more = [];
      whole = sym (append-nil earlier);
      counted = refl;
      passes = Passes-nothing p;
      fits = tt;
      distinct = λ e. e;
      within = room;
    })
cells_take (suc count) earlier all p q fits room h =
    let a = and_then_whole _ _ all q h in
    let c = cell_takes earlier p a.1 a.0 fits a.2 in
    let others = cells_take count (earlier ++ a.0 ∷ []) all a.1 q (IsBytes-passed p a.1 (cell_spelling a.0) c.passes fits) c.within a.3 in
    record {
      more = a.0 ∷ others.more;
      whole = others.whole ∙ append_assoc earlier (a.0 ∷ []) others.more;
      counted = ap suc others.counted;
      passes = rw (flat_map-cons cell_spelling a.0 others.more) (Passes-both p a.1 q (cell_spelling a.0) (cells_spelling others.more) c.passes others.passes);
      fits = (c.fits, others.fits);
      distinct = λ e. others.distinct (repeats-push earlier a.0 ∙ (rw (e, c.new) refl));
      within = others.within;
    }

pub cells_again : (more earlier : List Cell) (p q : Place) → AllByRecursion FitsCell more → repeats (earlier ++ more) ≡ false → Passes p (cells_spelling more) q → q.at ≤ q.end
    → judge (cells (length more) earlier) p ≡ Whole (earlier ++ more) q
unfolding cells
cells_again [] earlier p q fits distinct passes within =
    let same : p ≡ q = same_place p q (omega (arith, passes.at)) (sym passes.end) passes.parts in
    rw (append-nil earlier, same) refl
cells_again (c ∷ cs) earlier p q fits distinct passes within =
    let a = cell_spelling c in
    let b = cells_spelling cs in
    let whole : Passes p (a ++ b) q = rw (flat_map-cons cell_spelling c cs) at passes in
    let m = between p a b q in
    let second = Passes-second p q a b whole in
    let first = cell_again earlier p m c (record { passes = Passes-first p q a b whole; fits = fits.0; new = new_column earlier c cs distinct; within = omega (arith, second.at, second.end, within) }) in
    let regrouped : (earlier ++ c ∷ []) ++ cs ≡ earlier ++ c ∷ cs = append_assoc earlier (c ∷ []) cs in
    let others = cells_again cs (earlier ++ c ∷ []) m q fits.1 (ap repeats regrouped ∙ distinct) second within in
    rw (first, others, regrouped) refl
