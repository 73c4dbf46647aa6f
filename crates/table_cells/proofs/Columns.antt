-- The entries of some puts and deletes are those of their columns, each joined of its own.
use Rattle.std.proofs.Common.{◌≡◌, ℕ, Bool, true, false, cond, ◌||◌, List, [], ◌∷◌, ◌++◌, map, filter, Option, Some, None, Ordering, refl, ap, sym, ◌∙◌, append_assoc, append-nil}
use Rattle.std.specs.Prelude.{fold}
use Rattle.std.specs.declared.cmp.Ordering.TheVariants.{Less, Equal, Greater}
use Rattle.std.specs.List.{list_any}
use Rattle.std.specs.Ordering.{match_ordering, is_eq}
use Rattle.std.proofs.lemmas.Bool.{or_parts}
use Rattle.std.proofs.lemmas.Cmp.{alike_right, eq_by_cmp_equiv}
use Rattle.std.proofs.lemmas.List.Elements.{filter-append}
use Rattle.std.proofs.lemmas.List.Sums.{fold-append}
use Rattle.rep_model.specs.See.{column_order, add_column}
use Rattle.rep_model.specs.declared.views.Column.{Column}
use Rattle.table_cells.specs.declared.entry.Entry.{Entry}
use Rattle.table_cells.specs.declared.entry.Latest.{Latest}
use Rattle.table_cells.specs.Entries.{column, join_deletes, join_puts, joined, add, add_all, IsBelow, IsRising}
use Rattle.table_cells.proofs.Order.{total, below-trans, below-same, rising-add}

-- the entry is of the column
abbrev pub is_at : Column → Entry → Bool
is_at c n = is_eq (column_order (column n) c)

abbrev pub own : Column → List Entry → List Entry
own c ns = filter (is_at c) ns

abbrev pub blank : Column → Entry
blank c = record { row = c.row; family = c.family; qualifier = c.qualifier; delete = None; put = None }

-- what these say of the column, joined
abbrev pub at_column : List Entry → Column → Entry
at_column ns c = fold joined (blank c) (own c ns)

pub column-fold : (e : Entry) (ns : List Entry) → column (fold joined e ns) ≡ column e
column-fold e [] = refl
column-fold e (n ∷ ns) = column-fold (joined e n) ns

own-more : (c : Column) (ns : List Entry) (n : Entry) (b : Bool) → is_at c n ≡ b → own c (ns ++ n ∷ []) ≡ own c ns ++ cond b (n ∷ []) []
own-more c ns n b h = filter-append (is_at c) ns (n ∷ []) ∙ ap (λ t. own c ns ++ cond t (n ∷ []) []) h

at-more : (c : Column) (ns : List Entry) (n : Entry) → is_at c n ≡ true → at_column (ns ++ n ∷ []) c ≡ joined (at_column ns c) n
at-more c ns n h = ap (fold joined (blank c)) (own-more c ns n true h) ∙ fold-append joined (blank c) (own c ns) (n ∷ [])

at-other : (c : Column) (ns : List Entry) (n : Entry) → is_at c n ≡ false → at_column (ns ++ n ∷ []) c ≡ at_column ns c
at-other c ns n h = ap (fold joined (blank c)) (own-more c ns n false h ∙ append-nil (own c ns))

all-other : (ns : List Entry) (n : Entry) (cs : List Column) → IsBelow (column n) cs → map (at_column (ns ++ n ∷ [])) cs ≡ map (at_column ns) cs
all-other ns n [] h = refl
all-other ns n (c ∷ cs) h = λ i. at-other c ns n (ap is_eq h.0) i ∷ all-other ns n cs h.1 i

join-no_delete : (d : Option ℕ) → join_deletes None d ≡ d
join-no_delete None = refl
join-no_delete (Some s) = refl

join-no_put : (p : Option Latest) → join_puts None p ≡ p
join-no_put None = refl
join-no_put (Some p) = refl

join-blank : (n : Entry) → joined (blank (column n)) n ≡ n
join-blank n = λ i. record { row = n.row; family = n.family; qualifier = n.qualifier; delete = join-no_delete n.delete i; put = join-no_put n.put i }

-- the column is among these
abbrev stands : Column → List Column → Bool
stands c cs = list_any (λ d. is_eq (column_order c d)) cs

below-absent : (c : Column) (cs : List Column) → IsBelow c cs → stands c cs ≡ false
below-absent c [] h = refl
below-absent c (d ∷ ds) h = ap (λ o. is_eq o || stands c ds) h.0 ∙ below-absent c ds h.1

or-twice : (a s : Bool) → (a || s) ≡ (a || (a || s))
or-twice true s = refl
or-twice false s = refl

or-swap : (a b s : Bool) → (a || (b || s)) ≡ (b || (a || s))
or-swap true true s = refl
or-swap true false s = refl
or-swap false true s = refl
or-swap false false s = refl

stands-add : (c n : Column) (cs : List Column) → stands c (add_column n cs) ≡ (is_eq (column_order c n) || stands c cs)
stands-add c n [] = refl
stands-add c n (d ∷ ds) =
    (elim (column_order n d) as (λ (o : Ordering). column_order n d ≡ o → stands c (match_ordering o (n ∷ d ∷ ds) (d ∷ ds) (d ∷ add_column n ds)) ≡ (is_eq (column_order c n) || (is_eq (column_order c d) || stands c ds))) [
      | Less ↦ λ q. refl
      | Equal ↦ λ q. or-twice (is_eq (column_order c d)) (stands c ds) ∙ ap (λ o. is_eq o || (is_eq (column_order c d) || stands c ds)) (sym (alike_right total n d c q))
      | Greater ↦ λ q. ap (λ s. is_eq (column_order c d) || s) (stands-add c n ds) ∙ or-swap (is_eq (column_order c d)) (is_eq (column_order c n)) (stands c ds)
    ]) refl

-- of a column that isn't among these, nothing is said
abbrev Covers : List Entry → List Column → Type 0
Covers ns cs = (c : Column) → stands c cs ≡ false → own c ns ≡ []

covers-more : (ns : List Entry) (n : Entry) (cs : List Column) → Covers ns cs → Covers (ns ++ n ∷ []) (add_column (column n) cs)
covers-more ns n cs covers c h =
    let parts = or_parts (is_eq (column_order c (column n))) (stands c cs) (sym (stands-add c (column n) cs) ∙ h) in
    let other : is_at c n ≡ false = (eq_by_cmp_equiv total).symm (column n) c ∙ parts.0 in
    own-more c ns n false other ∙ append-nil (own c ns) ∙ covers c parts.1

-- an entry of a column of which nothing was said
alone : (ns : List Entry) (n : Entry) → own (column n) ns ≡ [] → is_at (column n) n ≡ true → n ≡ at_column (ns ++ n ∷ []) (column n)
alone ns n none here = sym (at-more (column n) ns n here ∙ ap (λ os. joined (fold joined (blank (column n)) os) n) none ∙ join-blank n)

itself : (n : Entry) → is_at (column n) n ≡ true
itself n = (eq_by_cmp_equiv total).refl (column n)

add-at : (ns : List Entry) (n : Entry) (cs : List Column) → IsRising cs → (stands (column n) cs ≡ false → own (column n) ns ≡ [])
    → add n (map (at_column ns) cs) ≡ map (at_column (ns ++ n ∷ [])) (add_column (column n) cs)
add-at ns n [] rising none = ap (λ e. e ∷ []) (alone ns n (none refl) (itself n))
add-at ns n (d ∷ ds) rising none =
    let es = map (at_column ns) ds in
    let e = at_column ns d in
    ap (λ c. match_ordering (column_order (column n) c) (n ∷ e ∷ es) (joined e n ∷ es) (e ∷ add n es)) (column-fold (blank d) (own d ns))
    ∙ (elim (column_order (column n) d) as (λ (o : Ordering). column_order (column n) d ≡ o → match_ordering o (n ∷ at_column ns d ∷ map (at_column ns) ds) (joined (at_column ns d) n ∷ map (at_column ns) ds) (at_column ns d ∷ add n (map (at_column ns) ds)) ≡ map (at_column (ns ++ n ∷ [])) (match_ordering o (column n ∷ d ∷ ds) (d ∷ ds) (d ∷ add_column (column n) ds))) [
      | Less ↦ λ q.
          let under : IsBelow (column n) (d ∷ ds) = (q, below-trans (column n) d ds q rising.0) in
          let first = alone ns n (none (below-absent (column n) (d ∷ ds) under)) (itself n) in
          let others = sym (all-other ns n (d ∷ ds) under) in
          λ i. first i ∷ others i
      | Equal ↦ λ q.
          let first = sym (at-more d ns n (ap is_eq q)) in
          let others = sym (all-other ns n ds (below-same (column n) d ds q rising.0)) in
          λ i. first i ∷ others i
      | Greater ↦ λ q.
          let first = sym (at-other d ns n (ap is_eq q)) in
          let others = add-at ns n ds rising.1 (λ h. none (ap (λ o. is_eq o || stands (column n) ds) q ∙ h)) in
          λ i. first i ∷ others i
    ]) refl

abbrev pub add_columns : List Column → Entry → List Column
add_columns cs n = add_column (column n) cs

add_all-more : (ms ns : List Entry) (cs : List Column) → IsRising cs → Covers ms cs
    → add_all (map (at_column ms) cs) ns ≡ map (at_column (ms ++ ns)) (fold add_columns cs ns)
add_all-more ms [] cs rising covers = ap (λ ns. map (at_column ns) cs) (sym (append-nil ms))
add_all-more ms (n ∷ ns) cs rising covers =
    ap (λ es. add_all es ns) (add-at ms n cs rising (covers (column n)))
    ∙ add_all-more (ms ++ n ∷ []) ns (add_column (column n) cs) (rising-add (column n) cs rising) (covers-more ms n cs covers)
    ∙ ap (λ os. map (at_column os) (fold add_columns (add_column (column n) cs) ns)) (append_assoc ms (n ∷ []) ns)

pub add_all-columns : (ns : List Entry) → add_all [] ns ≡ map (at_column ns) (fold add_columns [] ns)
add_all-columns ns = add_all-more [] ns [] tt (λ c h. refl)
