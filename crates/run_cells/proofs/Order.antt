-- The order of cells, and what it says of a cell before or behind another.
use Rattle.std.proofs.Common.{◌≡◌, ℕ, Bool, true, false, List, Ordering, refl, ap, sym, ◌∙◌, arith}
use Rattle.std.specs.Prelude.{◌==◌, ◌&&◌, nat_le}
use Rattle.std.specs.declared.cmp.Ordering.TheVariants.{Less, Equal, Greater}
use Rattle.std.specs.Cmp.{IsTotalOrder}
use Rattle.std.specs.Ordering.{nat_cmp, ordering_then, ordering_reverse, is_eq, is_lt, is_gt}
use Rattle.std.proofs.lemmas.Cmp.{then_total, on_total, back_total, nat_cmp_total, nat_list_cmp_total}
use Rattle.rep_types.specs.declared.cell.CellKind.{CellKind}
use Rattle.rep_types.specs.declared.cell.CellKind.TheVariants.{Put, Erase}
use Rattle.rep_types.specs.declared.entry.Rank.{Rank}
use Rattle.store_file.specs.declared.cell.RunCell.{RunCell}
use Rattle.store_file.specs.Order.{rank_order, place_order, age_order, run_order}
use Rattle.run_cells.specs.Outdone.{is_at, is_twin, is_delete, is_delete_kind, outdone_as, outdone_by}

pub place_total : IsTotalOrder place_order
place_total = then_total (on_total (λ (c : RunCell). c.row) nat_list_cmp_total)
    (then_total (on_total (λ (c : RunCell). c.family) nat_list_cmp_total) (on_total (λ (c : RunCell). c.qualifier) nat_list_cmp_total))

pub rank_total : IsTotalOrder rank_order
rank_total = then_total (on_total (λ (r : Rank). r.generation) nat_cmp_total)
    (then_total (on_total (λ (r : Rank). r.seq) nat_cmp_total) (on_total (λ (r : Rank). r.replay) nat_cmp_total))

pub age_total : IsTotalOrder age_order
age_total = then_total (back_total (on_total (λ (c : RunCell). c.stamp) nat_cmp_total)) (back_total (on_total (λ (c : RunCell). c.rank) rank_total))

pub run_total : IsTotalOrder run_order
run_total = then_total place_total age_total

pub lt-Less : (o : Ordering) → is_lt o ≡ true → o ≡ Less
lt-Less Less h = refl
lt-Less Equal h = absurd (cc)
lt-Less Greater h = absurd (cc)

pub eq-Equal : (o : Ordering) → is_eq o ≡ true → o ≡ Equal
eq-Equal Less h = absurd (cc)
eq-Equal Equal h = refl
eq-Equal Greater h = absurd (cc)

eq-reverse : (o : Ordering) → is_eq (ordering_reverse o) ≡ is_eq o
eq-reverse Less = refl
eq-reverse Equal = refl
eq-reverse Greater = refl

pub at_sym : (c d : RunCell) → is_at c d ≡ is_at d c
at_sym c d = ap is_eq (place_total.antisymm c d) ∙ eq-reverse (place_order d c)

pub at_trans : (c d e : RunCell) → is_at c d ≡ true → is_at d e ≡ true → is_at c e ≡ true
at_trans c d e h g = ap is_eq (place_total.congr c d e (eq-Equal (place_order c d) h)) ∙ g

-- the first of two orders isn't Greater where both together are Less
first_le : (o p : Ordering) → ordering_then o p ≡ Less → is_gt o ≡ false
first_le Less p h = refl
first_le Equal p h = refl
first_le Greater p h = absurd (cc)

second_Less : (o p : Ordering) → ordering_then o p ≡ Less → is_eq o ≡ true → p ≡ Less
second_Less Less p h e = absurd (cc)
second_Less Equal p h e = h
second_Less Greater p h e = absurd (cc)

module _ {K : Type 0} {o : K → K → Ordering} (total : IsTotalOrder o) where
  -- what lies between two that tie, ties with the upper one
  between : (x y z : K) → is_gt (o x y) ≡ false → is_gt (o y z) ≡ false → is_eq (o x z) ≡ true → is_eq (o y z) ≡ true
  between x y z low high h =
      (elim (o x y) as (λ (p : Ordering). o x y ≡ p → is_gt p ≡ false → is_eq (o y z) ≡ true) [
        | Less ↦ λ e l. (elim (o y z) as (λ (q : Ordering). o y z ≡ q → is_gt q ≡ false → is_eq q ≡ true) [
          | Less ↦ λ f g. absurd (let bad : is_eq (o x z) ≡ false = ap is_eq (total.trans x y z e f) in cc)
          | Equal ↦ λ f g. refl
          | Greater ↦ λ f g. absurd (cc)
        ]) refl high
        | Equal ↦ λ e l. ap is_eq (sym (total.congr x y z e)) ∙ h
        | Greater ↦ λ e l. absurd (cc)
      ]) refl low

-- age among cells of one column
pub age_of : (c d : RunCell) → run_order d c ≡ Less → is_at c d ≡ true → age_order d c ≡ Less
age_of c d h t = second_Less (place_order d c) (age_order d c) h (sym (at_sym c d) ∙ t)

-- of three cells in order, where the first and the last are of one column, so is the one between
pub column_between : (c d e : RunCell) → run_order c d ≡ Less → run_order d e ≡ Less → is_at e c ≡ true → is_at e d ≡ true
column_between c d e low high h =
    at_sym e d ∙ between place_total c d e (first_le (place_order c d) (age_order c d) low) (first_le (place_order d e) (age_order d e) high) (at_sym c e ∙ h)

below_between : {K : Type 0} {o : K → K → Ordering} (total : IsTotalOrder o) (x y z : K) → is_gt (o x y) ≡ false → is_gt (o y z) ≡ false → is_eq (o x z) ≡ true → is_eq (o x y) ≡ true
below_between {o = o} total x y z low high h =
    let upper = eq-Equal (o y z) (between total x y z low high h) in
    ap is_eq (total.antisymm x y) ∙ eq-reverse (o y x) ∙ ap is_eq (total.congr y z x upper) ∙ ap is_eq (total.antisymm z x) ∙ eq-reverse (o x z) ∙ h

stamp_between : (a b c : ℕ) (o p : Ordering) → ordering_then (nat_cmp b a) o ≡ Less → ordering_then (nat_cmp c b) p ≡ Less → (a == c) ≡ true → (a == b) ≡ true
stamp_between a b c o p low high h = grind arith

pub split-and : (a b : Bool) → (a && b) ≡ true → (a ≡ true) × (b ≡ true)
split-and true b h = (refl, h)
split-and false b h = absurd (cc)

pub both-true : (a b : Bool) → a ≡ true → b ≡ true → (a && b) ≡ true
both-true true b h g = g
both-true false b h g = absurd (cc)

-- and so it is with the timestamp
pub twin_between : (c d e : RunCell) → run_order c d ≡ Less → run_order d e ≡ Less → is_twin c e ≡ true → is_twin c d ≡ true
twin_between c d e low high h =
    let parts = split-and (is_at c e) (c.stamp == e.stamp) h in
    let near : is_at c d ≡ true = below_between place_total c d e (first_le (place_order c d) (age_order c d) low) (first_le (place_order d e) (age_order d e) high) parts.0 in
    let far : is_at d e ≡ true = between place_total c d e (first_le (place_order c d) (age_order c d) low) (first_le (place_order d e) (age_order d e) high) parts.0 in
    both-true (is_at c d) (c.stamp == d.stamp) near
    (stamp_between c.stamp d.stamp e.stamp (rank_order d.rank c.rank) (rank_order e.rank d.rank) (age_of d c low (at_sym d c ∙ near)) (age_of e d high (at_sym e d ∙ far)) parts.1)

pub not-older : (a b : ℕ) (o : Ordering) → ordering_then (nat_cmp a b) o ≡ Less → nat_le a b ≡ true
not-older a b o h = grind arith

same-stamps : (a b : ℕ) (o : Ordering) → ordering_then (nat_cmp b a) o ≡ Less → nat_le a b ≡ (a == b)
same-stamps a b o h = grind arith

and-false : (a : Bool) → (a && false) ≡ false
and-false true = refl
and-false false = refl

and-true : (a : Bool) → (a && true) ≡ a
and-true true = refl
and-true false = refl

and_given : (a x y : Bool) → (a ≡ true → x ≡ y) → (a && x) ≡ (a && y)
and_given true x y h = h refl
and_given false x y h = refl

and_assoc : (a b c : Bool) → (a && (b && c)) ≡ ((a && b) && c)
and_assoc true b c = refl
and_assoc false b c = refl

reversed : (o : Ordering) → o ≡ Less → is_lt (ordering_reverse o) ≡ false
reversed Less h = refl
reversed Equal h = refl
reversed Greater h = absurd (cc)

later_age : (c d : RunCell) → age_order c d ≡ Less → is_lt (age_order d c) ≡ false
later_age c d h = ap is_lt (age_total.antisymm d c) ∙ reversed (age_order c d) h

-- what an earlier cell of the column does to a put and to a delete
put_before : (c d : RunCell) (v : List ℕ) (k : CellKind) → age_order d c ≡ Less → outdone_as c d (Put v) k ≡ true
put_before c d v (Put w) h = ap is_lt h
put_before c d v Erase h = not-older c.stamp d.stamp (rank_order c.rank d.rank) h

delete_before : (c d : RunCell) (k : CellKind) → age_order d c ≡ Less → outdone_as c d Erase k ≡ is_delete_kind k
delete_before c d (Put w) h = refl
delete_before c d Erase h = ap is_lt h

-- what a later one does
put_behind : (c d : RunCell) (v : List ℕ) (k : CellKind) → age_order c d ≡ Less → outdone_as c d (Put v) k ≡ ((c.stamp == d.stamp) && is_delete_kind k)
put_behind c d v (Put w) h = later_age c d h ∙ sym (and-false (c.stamp == d.stamp))
put_behind c d v Erase h = same-stamps c.stamp d.stamp (rank_order d.rank c.rank) h ∙ sym (and-true (c.stamp == d.stamp))

delete_behind : (c d : RunCell) (k : CellKind) → age_order c d ≡ Less → outdone_as c d Erase k ≡ false
delete_behind c d (Put w) h = refl
delete_behind c d Erase h = later_age c d h

abbrev pub by_kind : RunCell → CellKind → RunCell → Bool
by_kind c k d = is_at c d && outdone_as c d k d.kind

pub put_by_earlier : (c d : RunCell) (v : List ℕ) → run_order d c ≡ Less → by_kind c (Put v) d ≡ is_at c d
put_by_earlier c d v h = and_given (is_at c d) (outdone_as c d (Put v) d.kind) true (λ t. put_before c d v d.kind (age_of c d h t)) ∙ and-true (is_at c d)

pub delete_by_earlier : (c d : RunCell) → run_order d c ≡ Less → by_kind c Erase d ≡ (is_at c d && is_delete d)
delete_by_earlier c d h = and_given (is_at c d) (outdone_as c d Erase d.kind) (is_delete d) (λ t. delete_before c d d.kind (age_of c d h t))

pub put_by_later : (c d : RunCell) (v : List ℕ) → run_order c d ≡ Less → by_kind c (Put v) d ≡ (is_twin c d && is_delete d)
put_by_later c d v h =
    and_given (is_at c d) (outdone_as c d (Put v) d.kind) ((c.stamp == d.stamp) && is_delete d) (λ t. put_behind c d v d.kind (age_of d c h (at_sym d c ∙ t)))
    ∙ and_assoc (is_at c d) (c.stamp == d.stamp) (is_delete d)

pub delete_by_later : (c d : RunCell) → run_order c d ≡ Less → by_kind c Erase d ≡ false
delete_by_later c d h = and_given (is_at c d) (outdone_as c d Erase d.kind) false (λ t. delete_behind c d d.kind (age_of d c h (at_sym d c ∙ t))) ∙ and-false (is_at c d)

age_self : (c : RunCell) → is_lt (age_order c c) ≡ false
age_self c = alone (age_order c c) (age_total.antisymm c c)
  where
    alone : (o : Ordering) → o ≡ ordering_reverse o → is_lt o ≡ false
    alone Less h = absurd (cc)
    alone Equal h = refl
    alone Greater h = refl

self_as : (c : RunCell) (k : CellKind) → outdone_as c c k k ≡ false
self_as c (Put v) = age_self c
self_as c Erase = age_self c

-- no cell outdoes itself
pub not_itself : (c : RunCell) → outdone_by c c ≡ false
not_itself c = and_given (is_at c c) (outdone_as c c c.kind c.kind) false (λ t. self_as c c.kind) ∙ and-false (is_at c c)
