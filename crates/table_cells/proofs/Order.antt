-- The order of columns, and columns that rise.
use Rattle.std.proofs.Common.{◌≡◌, List, [], ◌∷◌, Ordering, refl, ap, ◌∙◌}
use Rattle.std.specs.declared.cmp.Ordering.TheVariants.{Less, Equal, Greater}
use Rattle.std.specs.Cmp.{IsTotalOrder}
use Rattle.std.specs.Ordering.{match_ordering, ordering_reverse}
use Rattle.std.proofs.lemmas.Cmp.{then_total, on_total, nat_list_cmp_total}
use Rattle.rep_model.specs.See.{column_order, add_column}
use Rattle.rep_model.specs.declared.views.Column.{Column}
use Rattle.table_cells.specs.Entries.{IsBelow, IsRising}

pub total : IsTotalOrder column_order
total = then_total (on_total (λ (c : Column). c.row) nat_list_cmp_total)
    (then_total (on_total (λ (c : Column). c.family) nat_list_cmp_total) (on_total (λ (c : Column). c.qualifier) nat_list_cmp_total))

pub each_order : {A : Type 0} (o : Ordering) (x y z : A) (P : A → Type 0) → (o ≡ Less → P x) → (o ≡ Equal → P y) → (o ≡ Greater → P z) → P (match_ordering o x y z)
each_order Less x y z P less equal greater = less refl
each_order Equal x y z P less equal greater = equal refl
each_order Greater x y z P less equal greater = greater refl

pub above : (c d : Column) → column_order c d ≡ Less → column_order d c ≡ Greater
above c d l = total.antisymm d c ∙ ap ordering_reverse l

pub below : (c d : Column) → column_order c d ≡ Greater → column_order d c ≡ Less
below c d g = total.antisymm d c ∙ ap ordering_reverse g

pub below-trans : (b c : Column) (cs : List Column) → column_order b c ≡ Less → IsBelow c cs → IsBelow b cs
below-trans b c [] l h = tt
below-trans b c (d ∷ ds) l h = (total.trans b c d l h.0, below-trans b c ds l h.1)

-- b is the column c
pub below-same : (b c : Column) (cs : List Column) → column_order b c ≡ Equal → IsBelow c cs → IsBelow b cs
below-same b c [] e h = tt
below-same b c (d ∷ ds) e h = (total.congr b c d e ∙ h.0, below-same b c ds e h.1)

below-add : (c n : Column) (cs : List Column) → column_order c n ≡ Less → IsBelow c cs → IsBelow c (add_column n cs)
below-add c n [] l h = (l, tt)
below-add c n (d ∷ ds) l h =
    each_order (column_order n d) (n ∷ d ∷ ds) (d ∷ ds) (d ∷ add_column n ds) (IsBelow c)
    (λ _. (l, h)) (λ _. h) (λ _. (h.0, below-add c n ds l h.1))

pub rising-add : (n : Column) (cs : List Column) → IsRising cs → IsRising (add_column n cs)
rising-add n [] r = (tt, tt)
rising-add n (d ∷ ds) r =
    each_order (column_order n d) (n ∷ d ∷ ds) (d ∷ ds) (d ∷ add_column n ds) IsRising
    (λ l. ((l, below-trans n d ds l r.0), r))
    (λ _. r)
    (λ g. (below-add d n ds (below n d g) r.0, rising-add n ds r.1))
