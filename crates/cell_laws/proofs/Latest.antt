-- The put that cells show of a column, when they are written in the order of their ranks.
use Rattle.std.proofs.Common.{◌≡◌, ℕ, Bool, true, false, cond, ◌&&◌, ◌||◌, List, [], ◌∷◌, Option, Some, None, Ordering, refl, ap, sym, ◌∙◌, arith}
use Rattle.std.specs.Prelude.{fold, not, nat_lt}
use Rattle.std.specs.List.{list_any}
use Rattle.std.specs.Ordering.{nat_cmp, ordering_then, is_eq, is_lt}
use Rattle.std.specs.Str.{bytes_eq}
use Rattle.std.proofs.lemmas.Bool.{or_parts, or_from}
use Rattle.std.proofs.lemmas.Slice.Eq.{bytes_eq-Decides}
use Rattle.std.proofs.lemmas.Cmp.{alike_right}
use Rattle.rep_types.specs.declared.cell.CellKind.{CellKind}
use Rattle.rep_types.specs.declared.cell.CellKind.TheVariants.{Put, Erase}
use Rattle.rep_model.specs.See.{Stamped, add_put}
use Rattle.rep_model.specs.declared.views.Column.{Column}
use Rattle.store_file.specs.declared.cell.RunCell.{RunCell}
use Rattle.store_file.specs.Order.{rank_order, age_order}
use Rattle.run_cells.specs.Outdone.{is_delete_kind}
use Rattle.run_cells.proofs.Order.{rank_total, eq-Equal, split-and}
use Rattle.cell_laws.specs.Ranked.{is_ranked_below, NeverFalls}
use Rattle.cell_laws.proofs.Own.{at, put_at, put_step}

abbrev pub has_value : List ℕ → CellKind → Bool
has_value w (Put v) = bytes_eq v w
has_value w Erase = false

-- a put of the timestamp, rank and value
abbrev same_age : Ordering → List ℕ → CellKind → Bool
same_age o w kind = is_eq o && has_value w kind

abbrev pub is_same : RunCell → List ℕ → RunCell → Bool
is_same c w x = same_age (age_order c x) w x.kind

abbrev pub is_beaten : RunCell → List ℕ → RunCell → Bool
is_beaten c w x = is_lt (age_order c x) || is_same c w x

-- a put of the column that neither is this one nor comes behind it
abbrev pub rivals : Column → RunCell → List ℕ → RunCell → Bool
rivals k c w x = put_at k x && not (is_beaten c w x)

-- this put, written as a cell of the column
abbrev pub is_it : Column → RunCell → List ℕ → RunCell → Bool
is_it k c w x = at k x && is_same c w x

abbrev pub stamped : RunCell → List ℕ → Stamped
stamped c w = record { stamp = c.stamp; value = w }

-- no put of these has a greater timestamp
abbrev IsLow : ℕ → Option Stamped → Type 0
IsLow s None = Unit {0}
IsLow s (Some p) = nat_lt s p.stamp ≡ false

low-behind : (a b : ℕ) (o : Ordering) → is_lt (ordering_then (nat_cmp a b) o) ≡ true → is_lt o ≡ false → nat_lt a b ≡ true
low-behind a b o h g = grind arith

low-any : (a b : ℕ) (o : Ordering) → is_lt (ordering_then (nat_cmp a b) o) ≡ true → nat_lt b a ≡ false
low-any a b o h = grind arith

same-stamp : (a b : ℕ) (o : Ordering) → is_eq (ordering_then (nat_cmp a b) o) ≡ true → a ≡ b
same-stamp a b o h = grind arith

same-rank : (a b : ℕ) (o : Ordering) → is_eq (ordering_then (nat_cmp a b) o) ≡ true → is_eq o ≡ true
same-rank a b o h = grind arith

never-above : (a : ℕ) → nat_lt a a ≡ false
never-above a = grind arith

not-false : (a : Bool) → not a ≡ false → a ≡ true
not-false true h = refl
not-false false h = absurd (cc)

-- the put stays where a later one is beaten
keeps-kind : (c x : RunCell) (w : List ℕ) (kind : CellKind) (b : Bool) → ((b && not (is_delete_kind kind)) && not (is_lt (age_order c x) || same_age (age_order c x) w kind)) ≡ false
    → is_lt (rank_order x.rank c.rank) ≡ false → cond b (add_put (Some (stamped c w)) x.stamp kind) (Some (stamped c w)) ≡ Some (stamped c w)
keeps-kind c x w kind false h r = refl
keeps-kind c x w Erase true h r = refl
keeps-kind c x w (Put v) true h r =
    (elim (is_lt (age_order c x)) as (λ (b : Bool). is_lt (age_order c x) ≡ b → not (b || same_age (age_order c x) w (Put v)) ≡ false → add_put (Some (stamped c w)) x.stamp (Put v) ≡ Some (stamped c w)) [
      | true ↦ λ e g. ap (λ b. Some (cond b (stamped c w) (record { stamp = x.stamp; value = v }))) (low-behind x.stamp c.stamp (rank_order x.rank c.rank) e r)
      | false ↦ λ e g.
          let parts = split-and (is_eq (age_order c x)) (bytes_eq v w) (not-false (same_age (age_order c x) w (Put v)) g) in
          let stamps : x.stamp ≡ c.stamp = same-stamp x.stamp c.stamp (rank_order x.rank c.rank) parts.0 in
          let values : v ≡ w = (bytes_eq-Decides v w).0 parts.1 in
          ap (λ b. Some (cond b (stamped c w) (record { stamp = x.stamp; value = v }))) (ap (λ s. nat_lt s c.stamp) stamps ∙ never-above c.stamp)
          ∙ (λ i. Some (record { stamp = stamps i; value = values i }))
    ]) refl h

keeps : (k : Column) (c : RunCell) (w : List ℕ) (xs : List RunCell) → list_any (rivals k c w) xs ≡ false → list_any (is_ranked_below c) xs ≡ false
    → fold (put_step k) (Some (stamped c w)) xs ≡ Some (stamped c w)
keeps k c w [] h r = refl
keeps k c w (x ∷ xs) h r =
    let others = or_parts (rivals k c w x) (list_any (rivals k c w) xs) h in
    let ranks = or_parts (is_ranked_below c x) (list_any (is_ranked_below c) xs) r in
    ap (λ p. fold (put_step k) p xs) (keeps-kind c x w x.kind (at k x) others.0 ranks.0)
    ∙ keeps k c w xs others.1 ranks.1

-- a put that is this one takes the place of what isn't greater
comes-kind : (c x : RunCell) (w : List ℕ) (kind : CellKind) (p : Option Stamped) → same_age (age_order c x) w kind ≡ true → IsLow c.stamp p
    → add_put p x.stamp kind ≡ Some (stamped c w)
comes-kind c x w Erase p h low = absurd (let f : same_age (age_order c x) w Erase ≡ true = h in let g = split-and (is_eq (age_order c x)) false f in cc)
comes-kind c x w (Put v) None h low =
    let parts = split-and (is_eq (age_order c x)) (bytes_eq v w) h in
    let stamps : x.stamp ≡ c.stamp = same-stamp x.stamp c.stamp (rank_order x.rank c.rank) parts.0 in
    let values : v ≡ w = (bytes_eq-Decides v w).0 parts.1 in
    λ i. Some (record { stamp = stamps i; value = values i })
comes-kind c x w (Put v) (Some q) h low =
    let parts = split-and (is_eq (age_order c x)) (bytes_eq v w) h in
    let stamps : x.stamp ≡ c.stamp = same-stamp x.stamp c.stamp (rank_order x.rank c.rank) parts.0 in
    let values : v ≡ w = (bytes_eq-Decides v w).0 parts.1 in
    ap (λ b. Some (cond b q (record { stamp = x.stamp; value = v }))) (ap (λ s. nat_lt s q.stamp) stamps ∙ low)
    ∙ (λ i. Some (record { stamp = stamps i; value = values i }))

low-put : (c x : RunCell) (w v : List ℕ) → not (is_lt (age_order c x) || same_age (age_order c x) w (Put v)) ≡ false → nat_lt c.stamp x.stamp ≡ false
low-put c x w v h =
    (elim (is_lt (age_order c x)) as (λ (b : Bool). is_lt (age_order c x) ≡ b → not (b || same_age (age_order c x) w (Put v)) ≡ false → nat_lt c.stamp x.stamp ≡ false) [
      | true ↦ λ e g. low-any x.stamp c.stamp (rank_order x.rank c.rank) e
      | false ↦ λ e g.
          let parts = split-and (is_eq (age_order c x)) (bytes_eq v w) (not-false (same_age (age_order c x) w (Put v)) g) in
          ap (λ s. nat_lt c.stamp s) (same-stamp x.stamp c.stamp (rank_order x.rank c.rank) parts.0) ∙ never-above c.stamp
    ]) refl h

-- a put that comes behind stays low
low-kind : (c x : RunCell) (w : List ℕ) (kind : CellKind) (b : Bool) (p : Option Stamped) → ((b && not (is_delete_kind kind)) && not (is_lt (age_order c x) || same_age (age_order c x) w kind)) ≡ false
    → IsLow c.stamp p → IsLow c.stamp (cond b (add_put p x.stamp kind) p)
low-kind c x w kind false p h low = low
low-kind c x w Erase true p h low = low
low-kind c x w (Put v) true None h low = low-put c x w v h
low-kind c x w (Put v) true (Some q) h low =
    elim (nat_lt x.stamp q.stamp) as (λ (b : Bool). IsLow c.stamp (Some (cond b q (record { stamp = x.stamp; value = v })))) [
      | true ↦ low
      | false ↦ low-put c x w v h
    ]

no-lower : (c x : RunCell) (xs : List RunCell) → is_eq (age_order c x) ≡ true → list_any (is_ranked_below x) xs ≡ false → list_any (is_ranked_below c) xs ≡ false
no-lower c x [] e h = refl
no-lower c x (y ∷ ys) e h =
    let parts = or_parts (is_ranked_below x y) (list_any (is_ranked_below x) ys) h in
    let ranks : is_eq (rank_order x.rank c.rank) ≡ true = same-rank x.stamp c.stamp (rank_order x.rank c.rank) e in
    ap (λ o. is_lt o || list_any (is_ranked_below c) ys) (sym (alike_right rank_total x.rank c.rank y.rank (eq-Equal (rank_order x.rank c.rank) ranks)))
    ∙ or_from (is_ranked_below x y) (list_any (is_ranked_below c) ys) parts.0 (no-lower c x ys e parts.1)

pub settles : (k : Column) (c : RunCell) (w : List ℕ) (p : Option Stamped) (xs : List RunCell) → IsLow c.stamp p → NeverFalls xs
    → list_any (rivals k c w) xs ≡ false → list_any (is_it k c w) xs ≡ true → fold (put_step k) p xs ≡ Some (stamped c w)
settles k c w p [] low falls h t = absurd (cc)
settles k c w p (x ∷ xs) low falls h t =
    let others = or_parts (rivals k c w x) (list_any (rivals k c w) xs) h in
    (elim (is_it k c w x) as (λ (b : Bool). is_it k c w x ≡ b → (b || list_any (is_it k c w) xs) ≡ true → fold (put_step k) (put_step k p x) xs ≡ Some (stamped c w)) [
      | true ↦ λ e g.
          let parts = split-and (at k x) (is_same c w x) e in
          let same = (split-and (is_eq (age_order c x)) (has_value w x.kind) parts.1).0 in
          ap (λ b. fold (put_step k) (cond b (add_put p x.stamp x.kind) p) xs) parts.0
          ∙ ap (λ q. fold (put_step k) q xs) (comes-kind c x w x.kind p parts.1 low)
          ∙ keeps k c w xs others.1 (no-lower c x xs same falls.0)
      | false ↦ λ e g. settles k c w (put_step k p x) xs (low-kind c x w x.kind (at k x) p others.0 low) falls.1 others.1 g
    ]) refl t
