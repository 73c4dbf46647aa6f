-- The order of columns, columns that rise, and whether one is among them. The memory store of a table, which goes once there is one
-- over runs, has the same in its own proofs.
use Rattle.std.proofs.Common.{◌≡◌, Bool, true, false, ◌&&◌, ◌||◌, List, [], ◌∷◌, Ordering, refl, ap, sym, ◌∙◌}
use Rattle.std.specs.declared.cmp.Ordering.TheVariants.{Less, Equal, Greater}
use Rattle.std.specs.Cmp.{IsTotalOrder}
use Rattle.std.specs.List.{list_any}
use Rattle.std.specs.Ordering.{match_ordering, ordering_reverse, ordering_then, is_eq}
use Rattle.std.proofs.lemmas.Cmp.{then_total, on_total, nat_list_cmp_total, alike_right}
use Rattle.rep_model.specs.See.{column_order, add_column}
use Rattle.rep_model.specs.declared.views.Column.{Column}

-- the column is below all of these
abbrev pub IsBelow : Column → List Column → Type 0
IsBelow c [] = Unit {0}
IsBelow c (d ∷ ds) = (column_order c d ≡ Less) × IsBelow c ds

abbrev pub IsRising : List Column → Type 0
IsRising [] = Unit {0}
IsRising (c ∷ cs) = IsBelow c cs × IsRising cs

pub total : IsTotalOrder column_order
total = then_total (on_total (λ (c : Column). c.row) nat_list_cmp_total)
    (then_total (on_total (λ (c : Column). c.family) nat_list_cmp_total) (on_total (λ (c : Column). c.qualifier) nat_list_cmp_total))

each_order : {A : Type 0} (o : Ordering) (x y z : A) (P : A → Type 0) → (o ≡ Less → P x) → (o ≡ Equal → P y) → (o ≡ Greater → P z) → P (match_ordering o x y z)
each_order Less x y z P less equal greater = less refl
each_order Equal x y z P less equal greater = equal refl
each_order Greater x y z P less equal greater = greater refl

below : (c d : Column) → column_order c d ≡ Greater → column_order d c ≡ Less
below c d g = total.antisymm d c ∙ ap ordering_reverse g

below-trans : (b c : Column) (cs : List Column) → column_order b c ≡ Less → IsBelow c cs → IsBelow b cs
below-trans b c [] l h = tt
below-trans b c (d ∷ ds) l h = (total.trans b c d l h.0, below-trans b c ds l h.1)

below-add : (c n : Column) (cs : List Column) → column_order c n ≡ Less → IsBelow c cs → IsBelow c (add_column n cs)
below-add c n [] l h = (l, tt)
below-add c n (d ∷ ds) l h =
    each_order (column_order n d) (n ∷ d ∷ ds) (d ∷ ds) (d ∷ add_column n ds) (IsBelow c)
    (λ _. (l, h)) (λ _. h) (λ _. (h.0, below-add c n ds l h.1))

pub rising-add : (n : Column) (cs : List Column) → IsRising cs → IsRising (add_column n cs)
rising-add n [] r = (tt, tt)
rising-add n (d ∷ ds) r =
    each_order (column_order n d) (n ∷ d ∷ ds) (d ∷ ds) (d ∷ add_column n ds) IsRising
    (λ l. ((l, below-trans n d ds l r.0), r))
    (λ _. r)
    (λ g. (below-add d n ds (below n d g) r.0, rising-add n ds r.1))

-- the column is among these
abbrev pub stands : Column → List Column → Bool
stands c cs = list_any (λ d. is_eq (column_order c d)) cs

or-twice : (a s : Bool) → (a || s) ≡ (a || (a || s))
or-twice true s = refl
or-twice false s = refl

or-swap : (a b s : Bool) → (a || (b || s)) ≡ (b || (a || s))
or-swap true true s = refl
or-swap true false s = refl
or-swap false true s = refl
or-swap false false s = refl

pub stands-add : (c n : Column) (cs : List Column) → stands c (add_column n cs) ≡ (is_eq (column_order c n) || stands c cs)
stands-add c n [] = refl
stands-add c n (d ∷ ds) =
    (elim (column_order n d) as (λ (o : Ordering). column_order n d ≡ o → stands c (match_ordering o (n ∷ d ∷ ds) (d ∷ ds) (d ∷ add_column n ds)) ≡ (is_eq (column_order c n) || (is_eq (column_order c d) || stands c ds))) [
      | Less ↦ λ q. refl
      | Equal ↦ λ q. or-twice (is_eq (column_order c d)) (stands c ds) ∙ ap (λ o. is_eq o || (is_eq (column_order c d) || stands c ds)) (sym (alike_right total n d c q))
      | Greater ↦ λ q. ap (λ s. is_eq (column_order c d) || s) (stands-add c n ds) ∙ or-swap (is_eq (column_order c d)) (is_eq (column_order c n)) (stands c ds)
    ]) refl

pub is_eq-then : (o p : Ordering) → is_eq (ordering_then o p) ≡ (is_eq o && is_eq p)
is_eq-then Less p = refl
is_eq-then Equal p = refl
is_eq-then Greater p = refl

pub and-swap : (a b : Bool) → (a && b) ≡ (b && a)
and-swap true true = refl
and-swap true false = refl
and-swap false true = refl
and-swap false false = refl
