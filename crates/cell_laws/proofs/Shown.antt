-- What cells in order show rises by column, each column is one of the cells', and so it is what the table shows.
use Rattle.std.proofs.Common.{◌≡◌, ℕ, Bool, true, false, cond, ◌||◌, List, [], ◌∷◌, map, filter, Ordering, refl, ap, sym, ◌∙◌}
use Rattle.std.specs.Prelude.{fold, not}
use Rattle.std.specs.List.{list_any, filter_map, cons_option}
use Rattle.std.specs.Ordering.{is_eq, is_lt, ordering_then}
use Rattle.std.specs.declared.cmp.Ordering.TheVariants.{Less, Equal, Greater}
use Rattle.std.proofs.lemmas.Bool.{or_left, or_right}
use Rattle.std.proofs.lemmas.Cmp.{tied_itself}
use Rattle.rep_types.specs.declared.cell.CellKind.{CellKind}
use Rattle.rep_types.specs.declared.cell.CellKind.TheVariants.{Put, Erase}
use Rattle.rep_types.specs.declared.cell.CellView.{CellView}
use Rattle.rep_model.specs.See.{column_order, add_column, add_version, versions, columns, see}
use Rattle.rep_model.specs.declared.views.Column.{Column}
use Rattle.store_file.specs.declared.cell.RunCell.{RunCell}
use Rattle.store_file.specs.Order.{place_order, age_order, run_order, are_in_order}
use Rattle.run_cells.specs.Outdone.{outdone_by, is_outdone, counts_in, view_of_put, shown}
use Rattle.run_cells.proofs.Order.{at_sym, by_kind, put_by_earlier}
use Rattle.run_cells.proofs.Sorted.{AllBehind, Rises, rises}
use Rattle.cell_laws.proofs.Columns.{IsRising}
use Rattle.cell_laws.proofs.Columns.{total, rising-add}
use Rattle.cell_laws.proofs.Columns.{stands, stands-add}
use Rattle.cell_laws.specs.Ranked.{edit_of, NeverFalls}
use Rattle.cell_laws.proofs.Own.{column}
use Rattle.cell_laws.proofs.First.{put_view}
use Rattle.cell_laws.proofs.Listed.{IsBelowViews, ViewsRise, AllStand, listed}
use Rattle.cell_laws.proofs.Column.{column_told}

abbrev views : List RunCell → List RunCell → List CellView
views all cs = filter_map view_of_put (filter (counts_in all) cs)

first-less : (o p : Ordering) → ordering_then o p ≡ Less → (is_eq o ≡ true → ⊥) → o ≡ Less
first-less Less p h f = refl
first-less Equal p h f = absurd (f refl)
first-less Greater p h f = absurd (let g = ap is_lt h in cc)

-- a put that counts is of a column above that of each cell before it
column-above : (all : List RunCell) (c d : RunCell) (v : List ℕ) → ((p : RunCell → Bool) → p c ≡ true → list_any p all ≡ true) → run_order c d ≡ Less → d.kind ≡ Put v
    → is_outdone all d ≡ false → column_order (column c) (column d) ≡ Less
column-above all c d v inside less e counts =
    first-less (place_order c d) (age_order c d) less
    (λ t.
    let outdone : outdone_by d c ≡ true = ap (λ kind. by_kind d kind c) e ∙ put_by_earlier d c v less ∙ at_sym d c ∙ t in
    let found : is_outdone all d ≡ true = inside (outdone_by d) outdone in
    let f : true ≡ false = sym found ∙ counts in
    cc)

below-views : (all : List RunCell) (c : RunCell) (ds : List RunCell) → ((p : RunCell → Bool) → p c ≡ true → list_any p all ≡ true) → AllBehind c ds → IsBelowViews (column c) (views all ds)
below-views all c [] inside behind = tt
below-views all c (d ∷ ds) inside behind =
    let others = below-views all c ds inside behind.1 in
    (elim (is_outdone all d) as (λ (b : Bool). is_outdone all d ≡ b → IsBelowViews (column c) (filter_map view_of_put (cond (not b) (d ∷ filter (counts_in all) ds) (filter (counts_in all) ds)))) [
      | true ↦ λ h. others
      | false ↦ λ h.
          (elim d.kind as (λ (kind : CellKind). d.kind ≡ kind → IsBelowViews (column c) (cons_option (put_view d kind) (views all ds))) [
            | Put v ↦ λ e. (column-above all c d v inside behind.0 e h, others)
            | Erase ↦ λ e. others
          ]) refl
    ]) refl

views-rise : (all cs : List RunCell) → ((p : RunCell → Bool) → list_any p cs ≡ true → list_any p all ≡ true) → Rises cs → ViewsRise (views all cs)
views-rise all [] inside r = tt
views-rise all (c ∷ cs) inside r =
    let others = views-rise all cs (λ p h. inside p (or_right (p c) (list_any p cs) h)) r.1 in
    let below = below-views all c cs (λ p h. inside p (or_left (p c) (list_any p cs) h)) r.0 in
    elim (counts_in all c) as (λ (b : Bool). ViewsRise (filter_map view_of_put (cond b (c ∷ filter (counts_in all) cs) (filter (counts_in all) cs)))) [
      | true ↦ elim c.kind as (λ (kind : CellKind). ViewsRise (cons_option (put_view c kind) (views all cs))) [
        | Put v ↦ (below, others)
        | Erase ↦ others
      ]
      | false ↦ others
    ]

-- the cell's column is one of these
abbrev is_beside : Column → RunCell → Bool
is_beside k x = is_eq (column_order k (column x))

all-stand : (all : List RunCell) (ks : List Column) (cs : List RunCell) → ((k : Column) → list_any (is_beside k) cs ≡ true → stands k ks ≡ true) → AllStand ks (views all cs)
all-stand all ks [] has = tt
all-stand all ks (c ∷ cs) has =
    let others = all-stand all ks cs (λ k h. has k (or_right (is_beside k c) (list_any (is_beside k) cs) h)) in
    let here = has (column c) (or_left (is_beside (column c) c) (list_any (is_beside (column c)) cs) (ap is_eq (tied_itself total (column c)))) in
    elim (counts_in all c) as (λ (b : Bool). AllStand ks (filter_map view_of_put (cond b (c ∷ filter (counts_in all) cs) (filter (counts_in all) cs)))) [
      | true ↦ elim c.kind as (λ (kind : CellKind). AllStand ks (cons_option (put_view c kind) (views all cs))) [
        | Put v ↦ (here, others)
        | Erase ↦ others
      ]
      | false ↦ others
    ]

-- the columns of the edits are those of the cells, and rise
or-around : (a b s : Bool) → (b || (a || s)) ≡ ((a || b) || s)
or-around true true s = refl
or-around true false s = refl
or-around false true s = refl
or-around false false s = refl

or-nothing : (a : Bool) → (a || false) ≡ a
or-nothing true = refl
or-nothing false = refl

stands-fold : (table : List ℕ) (k : Column) (ks : List Column) (cs : List RunCell) → stands k (fold add_version ks (versions (map (edit_of table) cs))) ≡ (list_any (is_beside k) cs || stands k ks)
stands-fold table k ks [] = refl
stands-fold table k ks (c ∷ cs) =
    stands-fold table k (add_column (column c) ks) cs
    ∙ ap (λ b. list_any (is_beside k) cs || b) (stands-add k (column c) ks)
    ∙ or-around (is_beside k c) (list_any (is_beside k) cs) (stands k ks)

rising-fold : (table : List ℕ) (ks : List Column) (cs : List RunCell) → IsRising ks → IsRising (fold add_version ks (versions (map (edit_of table) cs)))
rising-fold table ks [] h = h
rising-fold table ks (c ∷ cs) h = rising-fold table (add_column (column c) ks) cs (rising-add (column c) ks h)

pub seen_shown : (table : List ℕ) (cells ranked : List RunCell) → are_in_order cells ≡ true → NeverFalls ranked
    → ((test : RunCell → Bool) → list_any test ranked ≡ list_any test cells)
    → see (map (edit_of table) ranked) ≡ shown cells
unfolding see shown
seen_shown table cells ranked ordered falls same =
    let ks = columns (versions (map (edit_of table) ranked)) in
    let stand = λ (k : Column) (h : list_any (is_beside k) cells ≡ true). stands-fold table k [] ranked ∙ or-nothing (list_any (is_beside k) ranked) ∙ same (is_beside k) ∙ h in
    (λ i. filter_map (λ k. column_told table cells ranked ordered falls same k i) ks)
    ∙ listed ks (shown cells) (rising-fold table [] ranked tt) (views-rise cells cells (λ p h. h) (rises cells ordered)) (all-stand cells ks cells stand)
