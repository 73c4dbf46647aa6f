-- A list of views is what is found of each of some columns, where both rise and the columns of the views are among them.
use Rattle.std.proofs.Common.{◌≡◌, Bool, true, false, cond, ◌||◌, List, [], ◌∷◌, Some, None, Ordering, refl, ap, sym, ◌∙◌}
use Rattle.std.specs.Prelude.{find}
use Rattle.std.specs.List.{filter_map, cons_option}
use Rattle.std.specs.Ordering.{is_eq, is_lt, ordering_reverse}
use Rattle.std.specs.declared.cmp.Ordering.TheVariants.{Less, Equal, Greater}
use Rattle.std.proofs.lemmas.Cmp.{alike_right, tied_back}
use Rattle.rep_types.specs.declared.cell.CellView.{CellView}
use Rattle.rep_model.specs.See.{column_order}
use Rattle.rep_model.specs.declared.views.Column.{Column}
use Rattle.run_cells.proofs.Order.{eq-Equal}
use Rattle.cell_laws.proofs.Columns.{IsBelow, IsRising}
use Rattle.cell_laws.proofs.Columns.{total}
use Rattle.cell_laws.proofs.Columns.{stands}

abbrev pub view_column : CellView → Column
view_column v = record { row = v.row; family = v.family; qualifier = v.qualifier }

-- it is shown of the column
abbrev pub is_shown_of : Column → CellView → Bool
is_shown_of k v = is_eq (column_order (view_column v) k)

-- the column is below those of all the views
abbrev pub IsBelowViews : Column → List CellView → Type 0
IsBelowViews k [] = Unit {0}
IsBelowViews k (v ∷ vs) = (column_order k (view_column v) ≡ Less) × IsBelowViews k vs

abbrev pub ViewsRise : List CellView → Type 0
ViewsRise [] = Unit {0}
ViewsRise (v ∷ vs) = IsBelowViews (view_column v) vs × ViewsRise vs

abbrev pub AllStand : List Column → List CellView → Type 0
AllStand ks [] = Unit {0}
AllStand ks (v ∷ vs) = (stands (view_column v) ks ≡ true) × AllStand ks vs

turned-eq : (o : Ordering) → o ≡ Less → is_eq (ordering_reverse o) ≡ false
turned-eq Less h = refl
turned-eq Equal h = absurd (let f = ap is_lt h in cc)
turned-eq Greater h = refl

above-not : (k l : Column) → column_order k l ≡ Less → is_eq (column_order l k) ≡ false
above-not k l h = ap is_eq (total.antisymm l k) ∙ turned-eq (column_order k l) h

-- nothing is found of a column below all
none-found : (k : Column) (vs : List CellView) → IsBelowViews k vs → find (is_shown_of k) vs ≡ None
none-found k [] h = refl
none-found k (v ∷ vs) h = ap (λ b. cond b (Some v) (find (is_shown_of k) vs)) (above-not k (view_column v) h.0) ∙ none-found k vs h.1

-- a first view that is of no column of these is found for none
found-behind : (v : CellView) (vs : List CellView) (ks : List Column) → IsBelow (view_column v) ks
    → filter_map (λ k. find (is_shown_of k) (v ∷ vs)) ks ≡ filter_map (λ k. find (is_shown_of k) vs) ks
found-behind v vs [] below = refl
found-behind v vs (k ∷ ks) below =
    λ i. cons_option (cond (ap is_eq below.0 i) (Some v) (find (is_shown_of k) vs)) (found-behind v vs ks below.1 i)

none-listed : (ks : List Column) → filter_map (λ k. find (is_shown_of k) []) ks ≡ []
none-listed [] = refl
none-listed (k ∷ ks) = none-listed ks

-- a column that stands among these stands above each that is below them
stands-above : (k l : Column) (ks : List Column) → IsBelow k ks → stands l ks ≡ true → column_order k l ≡ Less
stands-above k l [] below h = absurd (cc)
stands-above k l (m ∷ ms) below h =
    (elim (is_eq (column_order l m)) as (λ (b : Bool). is_eq (column_order l m) ≡ b → (b || stands l ms) ≡ true → column_order k l ≡ Less) [
      | true ↦ λ e g. alike_right total l m k (eq-Equal (column_order l m) e) ∙ below.0
      | false ↦ λ e g. stands-above k l ms below.1 g
    ]) refl h

-- a view whose column isn't the first stands among the others
all-behind : (k : Column) (ks : List Column) (vs : List CellView) → IsBelowViews k vs → AllStand (k ∷ ks) vs → AllStand ks vs
all-behind k ks [] below h = tt
all-behind k ks (v ∷ vs) below h = (ap (λ b. b || stands (view_column v) ks) (sym (above-not k (view_column v) below.0)) ∙ h.0, all-behind k ks vs below.1 h.1)

views-same : (k l : Column) (vs : List CellView) → column_order k l ≡ Equal → IsBelowViews k vs → IsBelowViews l vs
views-same k l [] e h = tt
views-same k l (v ∷ vs) e h = (sym (total.congr k l (view_column v) e) ∙ h.0, views-same k l vs e h.1)

columns-same : (k l : Column) (ks : List Column) → column_order k l ≡ Equal → IsBelow k ks → IsBelow l ks
columns-same k l [] e h = tt
columns-same k l (m ∷ ms) e h = (sym (total.congr k l m e) ∙ h.0, columns-same k l ms e h.1)

below-trans : (k l : Column) (vs : List CellView) → column_order k l ≡ Less → IsBelowViews l vs → IsBelowViews k vs
below-trans k l [] h g = tt
below-trans k l (v ∷ vs) h g = (total.trans k l (view_column v) h g.0, below-trans k l vs h g.1)

pub listed : (ks : List Column) (vs : List CellView) → IsRising ks → ViewsRise vs → AllStand ks vs → filter_map (λ k. find (is_shown_of k) vs) ks ≡ vs
listed [] [] rising rise all = refl
listed [] (v ∷ vs) rising rise all = absurd (let f = all.0 in cc)
listed (k ∷ ks) [] rising rise all = none-listed ks
listed (k ∷ ks) (v ∷ vs) rising rise all =
    (elim (is_eq (column_order (view_column v) k)) as (λ (b : Bool). is_eq (column_order (view_column v) k) ≡ b → (b || stands (view_column v) ks) ≡ true
    → cons_option (cond b (Some v) (find (is_shown_of k) vs)) (filter_map (λ l. find (is_shown_of l) (v ∷ vs)) ks) ≡ v ∷ vs) [
      | true ↦ λ e g.
          let tie : column_order (view_column v) k ≡ Equal = eq-Equal (column_order (view_column v) k) e in
          let below = columns-same k (view_column v) ks (tied_back total (view_column v) k tie) rising.0 in
          ap (λ us. v ∷ us) (found-behind v vs ks below ∙ listed ks vs rising.1 rise.1 (all-behind k ks vs (views-same (view_column v) k vs tie rise.0) all.1))
      | false ↦ λ e g.
          let above : column_order k (view_column v) ≡ Less = stands-above k (view_column v) ks rising.0 g in
          let below = below-trans k (view_column v) vs above rise.0 in
          ap (λ o. cons_option o (filter_map (λ l. find (is_shown_of l) (v ∷ vs)) ks)) (none-found k vs below)
          ∙ listed ks (v ∷ vs) rising.1 rise (g, all-behind k ks vs below all.1)
    ]) refl all.0
