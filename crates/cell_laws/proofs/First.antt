-- What cells in order show of a column: the first put of the column, where nothing outdoes it.
use Rattle.std.proofs.Common.{◌≡◌, ℕ, Bool, true, false, cond, ◌&&◌, ◌||◌, List, [], ◌∷◌, filter, Option, Some, None, Ordering, refl, ap, sym, ◌∙◌}
use Rattle.std.specs.Prelude.{not, nat_le, find}
use Rattle.std.specs.List.{list_any, filter_map, cons_option}
use Rattle.std.specs.Ordering.{is_eq, is_lt, ordering_reverse}
use Rattle.std.specs.declared.cmp.Ordering.TheVariants.{Less, Equal, Greater}
use Rattle.std.specs.Str.{bytes_eq}
use Rattle.std.proofs.lemmas.Bool.{or_parts, or_from, or_left, or_right, and_from, and_right}
use Rattle.std.proofs.lemmas.Slice.Eq.{bytes_eq-Decides}
use Rattle.std.proofs.lemmas.Cmp.{eq_by_cmp_equiv}
use Rattle.rep_types.specs.declared.cell.CellKind.{CellKind}
use Rattle.rep_types.specs.declared.cell.CellKind.TheVariants.{Put, Erase}
use Rattle.rep_types.specs.declared.cell.CellView.{CellView}
use Rattle.rep_model.specs.declared.views.Column.{Column}
use Rattle.store_file.specs.declared.cell.RunCell.{RunCell}
use Rattle.store_file.specs.Order.{run_order, age_order}
use Rattle.run_cells.specs.Outdone.{is_at, is_delete_kind, outdone_as, outdone_by, is_outdone, counts_in, view_of_put}
use Rattle.run_cells.proofs.Order.{age_total, age_of, by_kind, put_by_earlier, split-and}
use Rattle.run_cells.proofs.Sorted.{AllBehind, Rises}
use Rattle.cell_laws.proofs.Columns.{total}
use Rattle.cell_laws.proofs.Listed.{is_shown_of}
use Rattle.cell_laws.proofs.Own.{column, at, put_at, hides}
use Rattle.cell_laws.proofs.Latest.{has_value, is_same, is_beaten, is_it, rivals}

abbrev pub view : RunCell → List ℕ → CellView
view c w = record { row = c.row; family = c.family; qualifier = c.qualifier; stamp = c.stamp; value = w }

abbrev pub put_view : RunCell → CellKind → Option CellView
put_view c (Put w) = Some (view c w)
put_view c Erase = None

-- what these of all cells show of the column
abbrev pub shown_at : List RunCell → Column → List RunCell → Option CellView
shown_at all k cs = find (is_shown_of k) (filter_map view_of_put (filter (counts_in all) cs))

-- cells of one column
near : (k : Column) (x d : RunCell) → at k x ≡ true → at k d ≡ true → is_at x d ≡ true
near k x d h g = (eq_by_cmp_equiv total).congr (column x) k (column d) h ∙ (eq_by_cmp_equiv total).symm k (column d) ∙ g

at-same : (k : Column) (c x : RunCell) → at k c ≡ true → at k x ≡ is_at c x
at-same k c x h = (eq_by_cmp_equiv total).symm (column x) k ∙ sym ((eq_by_cmp_equiv total).congr (column c) k (column x) h)

and-true : (a : Bool) → a ≡ (a && true)
and-true true = refl
and-true false = refl

skip-kind : (k : Column) (d : RunCell) (kind : CellKind) (vs : List CellView) → (at k d && not (is_delete_kind kind)) ≡ false → find (is_shown_of k) (cons_option (put_view d kind) vs) ≡ find (is_shown_of k) vs
skip-kind k d (Put w) vs h = ap (λ b. cond b (Some (view d w)) (find (is_shown_of k) vs)) (and-true (at k d) ∙ h)
skip-kind k d Erase vs h = refl

skip : (all : List RunCell) (k : Column) (d : RunCell) (ds : List RunCell) → put_at k d ≡ false → shown_at all k (d ∷ ds) ≡ shown_at all k ds
skip all k d ds h =
    elim (counts_in all d) as (λ (b : Bool). find (is_shown_of k) (filter_map view_of_put (cond b (d ∷ filter (counts_in all) ds) (filter (counts_in all) ds))) ≡ shown_at all k ds) [
      | true ↦ skip-kind k d d.kind (filter_map view_of_put (filter (counts_in all) ds)) h
      | false ↦ refl
    ]

-- a cell that is outdone shows nothing
skip-outdone : (all : List RunCell) (k : Column) (d : RunCell) (ds : List RunCell) → is_outdone all d ≡ true → shown_at all k (d ∷ ds) ≡ shown_at all k ds
skip-outdone all k d ds h =
    ap (λ b. find (is_shown_of k) (filter_map view_of_put (cond (not b) (d ∷ filter (counts_in all) ds) (filter (counts_in all) ds)))) h

take : (all : List RunCell) (k : Column) (d : RunCell) (w : List ℕ) (ds : List RunCell) → is_outdone all d ≡ false → d.kind ≡ Put w → at k d ≡ true → shown_at all k (d ∷ ds) ≡ Some (view d w)
take all k d w ds h e t =
    let vs = filter_map view_of_put (filter (counts_in all) ds) in
    ap (λ b. find (is_shown_of k) (filter_map view_of_put (cond (not b) (d ∷ filter (counts_in all) ds) (filter (counts_in all) ds)))) h
    ∙ ap (λ kind. find (is_shown_of k) (cons_option (put_view d kind) vs)) e
    ∙ ap (λ b. cond b (Some (view d w)) (find (is_shown_of k) vs)) t

-- a put of the column that comes behind another is outdone
put-outdone : (k : Column) (d e : RunCell) (kind : CellKind) → run_order d e ≡ Less → at k d ≡ true → (at k e && not (is_delete_kind kind)) ≡ true → by_kind e kind d ≡ true
put-outdone k d e (Put v) less here h = put_by_earlier e d v less ∙ near k e d (split-and (at k e) true h).0 here
put-outdone k d e Erase less here h = absurd (let f = split-and (at k e) false h in cc)

none-behind : (all : List RunCell) (k : Column) (d : RunCell) (ds : List RunCell) → at k d ≡ true → ((p : RunCell → Bool) → p d ≡ true → list_any p all ≡ true)
    → AllBehind d ds → shown_at all k ds ≡ None
none-behind all k d [] here inside behind = refl
none-behind all k d (e ∷ es) here inside behind =
    (elim (put_at k e) as (λ (b : Bool). put_at k e ≡ b → shown_at all k (e ∷ es) ≡ shown_at all k es) [
      | true ↦ λ h. skip-outdone all k e es (inside (outdone_by e) (put-outdone k d e e.kind behind.0 here h))
      | false ↦ λ h. skip all k e es h
    ]) refl ∙ none-behind all k d es here inside behind.1

beaten-false : (o : Ordering) (s : Bool) → o ≡ Less → not (is_lt o || s) ≡ false
beaten-false Less s h = refl
beaten-false Equal s h = absurd (let f = ap is_lt h in cc)
beaten-false Greater s h = absurd (let f = ap is_lt h in cc)

-- no put of the column comes before the first
no-rival : (k : Column) (d x : RunCell) (w : List ℕ) (b : Bool) → at k d ≡ true → run_order d x ≡ Less → at k x ≡ b → ((b && not (is_delete_kind x.kind)) && not (is_lt (age_order d x) || (is_same d w x))) ≡ false
no-rival k d x w true here less t = and_right (not (is_delete_kind x.kind)) (not (is_beaten d w x)) (beaten-false (age_order d x) (is_same d w x) (age_of x d less (near k x d t here)))
no-rival k d x w false here less t = refl

no-rivals : (k : Column) (d : RunCell) (w : List ℕ) (xs : List RunCell) → at k d ≡ true → AllBehind d xs → list_any (rivals k d w) xs ≡ false
no-rivals k d w [] here behind = refl
no-rivals k d w (x ∷ xs) here behind =
    or_from (rivals k d w x) (list_any (rivals k d w) xs) (no-rival k d x w (at k x) here behind.0 refl) (no-rivals k d w xs here behind.1)

-- a cell and itself
level : (o : Ordering) → o ≡ ordering_reverse o → is_eq o ≡ true
level Less h = absurd (let f = ap is_lt h in cc)
level Equal h = refl
level Greater h = absurd (let f = ap is_lt h in cc)

itself : (c : RunCell) (w : List ℕ) → c.kind ≡ Put w → is_same c w c ≡ true
itself c w e =
    ap (λ b. b && has_value w c.kind) (level (age_order c c) (age_total.antisymm c c))
    ∙ ap (has_value w) e
    ∙ (bytes_eq-Decides w w).1 refl

no-self-rival : (a l s : Bool) → s ≡ true → (a && not (l || s)) ≡ false
no-self-rival true l s h = ap not (or_right l s h)
no-self-rival false l s h = refl

-- the first put of the column among these of all cells
pub record First (all : List RunCell) (k : Column) (cs : List RunCell) (c : RunCell) (w : List ℕ) : Type 0 where
  pub is : c.kind ≡ Put w
  pub here : at k c ≡ true
  pub there : list_any (is_it k c w) cs ≡ true
  pub best : list_any (rivals k c w) cs ≡ false
  pub shows : shown_at all k cs ≡ cond (is_outdone all c) None (Some (view c w))

begins : (all : List RunCell) (k : Column) (d : RunCell) (w : List ℕ) (ds : List RunCell) → d.kind ≡ Put w → at k d ≡ true
    → ((p : RunCell → Bool) → p d ≡ true → list_any p all ≡ true) → AllBehind d ds → First all k (d ∷ ds) d w
begins all k d w ds e t inside behind = record {
  is = e;
  here = t;
  there = or_left (is_it k d w d) (list_any (is_it k d w) ds) (and_from (at k d) (is_same d w d) t (itself d w e));
  best = or_from (rivals k d w d) (list_any (rivals k d w) ds) (no-self-rival (put_at k d) (is_lt (age_order d d)) (is_same d w d) (itself d w e)) (no-rivals k d w ds t behind);
  shows = (elim (is_outdone all d) as (λ (b : Bool). is_outdone all d ≡ b → shown_at all k (d ∷ ds) ≡ cond b None (Some (view d w))) [
    | true ↦ λ h. skip-outdone all k d ds h ∙ none-behind all k d ds t inside behind
    | false ↦ λ h. take all k d w ds h e t
  ]) refl;
}

goes_on : (all : List RunCell) (k : Column) (d : RunCell) (ds : List RunCell) (c : RunCell) (w : List ℕ) → put_at k d ≡ false → First all k ds c w → First all k (d ∷ ds) c w
goes_on all k d ds c w h f = record {
  is = f.is;
  here = f.here;
  there = or_right (is_it k c w d) (list_any (is_it k c w) ds) f.there;
  best = or_from (rivals k c w d) (list_any (rivals k c w) ds) (ap (λ b. b && not (is_beaten c w d)) h) f.best;
  shows = skip all k d ds h ∙ f.shows;
}

module _ (all : List RunCell) (k : Column) {G : Type 0} where
  -- there is none, or a first one
  pub first : (cs : List RunCell) → ((p : RunCell → Bool) → list_any p cs ≡ true → list_any p all ≡ true) → Rises cs
      → (list_any (put_at k) cs ≡ false → shown_at all k cs ≡ None → G) → ((c : RunCell) (w : List ℕ) → First all k cs c w → G) → G
  first [] inside rises none some = none refl refl
  first (d ∷ ds) inside rises none some =
      (elim (put_at k d) as (λ (b : Bool). put_at k d ≡ b → G) [
        | true ↦ λ h.
            let parts = split-and (at k d) (not (is_delete_kind d.kind)) h in
            (elim d.kind as (λ (kind : CellKind). d.kind ≡ kind → not (is_delete_kind kind) ≡ true → G) [
              | Put w ↦ λ e g. some d w (begins all k d w ds e parts.0 (λ p t. inside p (or_left (p d) (list_any p ds) t)) rises.0)
              | Erase ↦ λ e g. absurd (cc)
            ]) refl parts.1
        | false ↦ λ h.
            first ds (λ p t. inside p (or_right (p d) (list_any p ds) t)) rises.1
            (λ g e. none (or_from (put_at k d) (list_any (put_at k) ds) h g) (skip all k d ds h ∙ e))
            (λ c w f. some c w (goes_on all k d ds c w h f))
      ]) refl

-- a delete that hides the first put outdoes it, and nothing else does
behind-reverse : (o : Ordering) (s : Bool) → not (is_lt o || (is_eq o && s)) ≡ false → is_lt (ordering_reverse o) ≡ false
behind-reverse Less s h = refl
behind-reverse Equal s h = refl
behind-reverse Greater s h = absurd (cc)

hides-kind : (c x : RunCell) (w : List ℕ) (kind : CellKind) (b : Bool) → ((b && not (is_delete_kind kind)) && not (is_lt (age_order c x) || (is_eq (age_order c x) && has_value w kind))) ≡ false
    → (b && (is_delete_kind kind && nat_le c.stamp x.stamp)) ≡ (b && outdone_as c x (Put w) kind)
hides-kind c x w kind false h = refl
hides-kind c x w Erase true h = refl
hides-kind c x w (Put v) true h = sym (ap is_lt (age_total.antisymm x c) ∙ behind-reverse (age_order c x) (bytes_eq v w) h)

hides-outdoes : (k : Column) (c x : RunCell) (w : List ℕ) → c.kind ≡ Put w → at k c ≡ true → rivals k c w x ≡ false → hides k c.stamp x ≡ outdone_by c x
hides-outdoes k c x w e t h =
    hides-kind c x w x.kind (at k x) h
    ∙ ap (λ b. b && outdone_as c x (Put w) x.kind) (at-same k c x t)
    ∙ ap (λ kind. is_at c x && outdone_as c x kind x.kind) (sym e)

pub hidden-outdone : (k : Column) (c : RunCell) (w : List ℕ) (xs : List RunCell) → c.kind ≡ Put w → at k c ≡ true → list_any (rivals k c w) xs ≡ false
    → list_any (hides k c.stamp) xs ≡ is_outdone xs c
hidden-outdone k c w [] e t h = refl
hidden-outdone k c w (x ∷ xs) e t h =
    let parts = or_parts (rivals k c w x) (list_any (rivals k c w) xs) h in
    λ i. hides-outdoes k c x w e t parts.0 i || hidden-outdone k c w xs e t parts.1 i
