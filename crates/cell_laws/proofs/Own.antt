-- What the edits of single cells say of a column: a fold over the cells.
use Rattle.std.proofs.Common.{◌≡◌, ℕ, Bool, true, false, cond, ◌&&◌, ◌||◌, List, [], ◌∷◌, ◌++◌, map, Option, Some, None, refl, ap, sym, ◌∙◌, arith}
use Rattle.std.specs.Prelude.{fold, not, nat_le, max}
use Rattle.std.specs.Cmp.Lexicographic.{slice_cmp, texts_ties}
use Rattle.std.specs.List.{flat_map, list_any}
use Rattle.std.specs.Ordering.{nat_cmp, ordering_then, is_eq}
use Rattle.std.specs.Str.{bytes_eq}
use Rattle.std.proofs.lemmas.Bool.{or_parts}
use Rattle.rep_types.specs.declared.cell.Cell.{Cell}
use Rattle.rep_types.specs.declared.cell.CellKind.{CellKind}
use Rattle.rep_types.specs.declared.cell.CellKind.TheVariants.{Put, Erase}
use Rattle.rep_model.specs.See.{Stamped, column_order, is_of, cells_of, add_delete, add_put, delete_after, put_after, is_hidden}
use Rattle.rep_model.specs.declared.views.Column.{Column}
use Rattle.store_file.specs.declared.cell.RunCell.{RunCell}
use Rattle.run_cells.specs.Outdone.{is_delete, is_delete_kind}
use Rattle.cell_laws.proofs.Columns.{is_eq-then, and-swap}
use Rattle.cell_laws.specs.Ranked.{cell_of, edit_of}

abbrev pub column : RunCell → Column
column c = record { row = c.row; family = c.family; qualifier = c.qualifier }

abbrev pub at : Column → RunCell → Bool
at k c = is_eq (column_order (column c) k)

at-cell : (k : Column) (c : RunCell) → at k c ≡ (bytes_eq c.row k.row && is_of k (cell_of c))
at-cell k c =
    let family = slice_cmp nat_cmp c.family k.family in
    let qualifier = slice_cmp nat_cmp c.qualifier k.qualifier in
    is_eq-then (slice_cmp nat_cmp c.row k.row) (ordering_then family qualifier)
    ∙ ap (λ b. is_eq (slice_cmp nat_cmp c.row k.row) && b) (is_eq-then family qualifier ∙ and-swap (is_eq family) (is_eq qualifier))
    ∙ (λ i. sym (texts_ties c.row k.row) i && (sym (texts_ties c.qualifier k.qualifier) i && sym (texts_ties c.family k.family) i))

chosen : (a b : Bool) (x : Cell) → cond a (cond b (x ∷ []) []) [] ≡ cond (a && b) (x ∷ []) []
chosen true b x = refl
chosen false b x = refl

own-cell : (table : List ℕ) (k : Column) (c : RunCell) → cells_of k (edit_of table c) ≡ cond (at k c) (cell_of c ∷ []) []
own-cell table k c = chosen (bytes_eq c.row k.row) (is_of k (cell_of c)) (cell_of c) ∙ ap (λ b. cond b (cell_of c ∷ []) []) (sym (at-cell k c))

module _ {S : Type 0} (h : S → Cell → S) (table : List ℕ) (k : Column) where
  abbrev pub by_own : S → RunCell → S
  by_own s c = cond (at k c) (h s (cell_of c)) s

  pub own-fold : (s : S) (cs : List RunCell) → fold h s (flat_map (cells_of k) (map (edit_of table) cs)) ≡ fold by_own s cs
  own-fold s [] = refl
  own-fold s (c ∷ cs) =
      ap (λ xs. fold h s (xs ++ flat_map (cells_of k) (map (edit_of table) cs))) (own-cell table k c)
      ∙ elim (at k c) as (λ (b : Bool). fold h s (cond b (cell_of c ∷ []) [] ++ flat_map (cells_of k) (map (edit_of table) cs)) ≡ fold by_own (cond b (h s (cell_of c)) s) cs) [
        | true ↦ own-fold (h s (cell_of c)) cs
        | false ↦ own-fold s cs
      ]

-- a delete of the column at or above the timestamp
abbrev pub hides : Column → ℕ → RunCell → Bool
hides k s c = at k c && (is_delete c && nat_le s c.stamp)

reaches : (s m t : ℕ) → nat_le s (max m t) ≡ (nat_le s m || nat_le s t)
reaches s m t = grind arith

or-false : (a : Bool) → a ≡ (a || false)
or-false true = refl
or-false false = refl

or-assoc : (a b c : Bool) → ((a || b) || c) ≡ (a || (b || c))
or-assoc true b c = refl
or-assoc false b c = refl

abbrev pub delete_step : Column → Option ℕ → RunCell → Option ℕ
delete_step k d c = cond (at k c) (delete_after d (cell_of c)) d

hidden-step : (s : ℕ) (d : Option ℕ) (b : Bool) (t : ℕ) (kind : CellKind) → is_hidden (cond b (add_delete d t kind) d) s ≡ (is_hidden d s || (b && (is_delete_kind kind && nat_le s t)))
hidden-step s d false t kind = or-false (is_hidden d s)
hidden-step s d true t (Put w) = or-false (is_hidden d s)
hidden-step s None true t Erase = refl
hidden-step s (Some m) true t Erase = reaches s m t

pub hidden-fold : (k : Column) (s : ℕ) (d : Option ℕ) (cs : List RunCell) → is_hidden (fold (delete_step k) d cs) s ≡ (is_hidden d s || list_any (hides k s) cs)
hidden-fold k s d [] = or-false (is_hidden d s)
hidden-fold k s d (c ∷ cs) =
    hidden-fold k s (delete_step k d c) cs
    ∙ ap (λ b. b || list_any (hides k s) cs) (hidden-step s d (at k c) c.stamp c.kind)
    ∙ or-assoc (is_hidden d s) (hides k s c) (list_any (hides k s) cs)

abbrev pub put_at : Column → RunCell → Bool
put_at k c = at k c && not (is_delete c)

abbrev pub put_step : Column → Option Stamped → RunCell → Option Stamped
put_step k p c = cond (at k c) (put_after p (cell_of c)) p

no_put-step : (p : Option Stamped) (b : Bool) (t : ℕ) (kind : CellKind) → (b && not (is_delete_kind kind)) ≡ false → cond b (add_put p t kind) p ≡ p
no_put-step p false t kind h = refl
no_put-step p true t (Put w) h = absurd (cc)
no_put-step p true t Erase h = refl

step-other : (k : Column) (p : Option Stamped) (c : RunCell) → put_at k c ≡ false → put_step k p c ≡ p
step-other k p c h = no_put-step p (at k c) c.stamp c.kind h

pub no_put : (k : Column) (cs : List RunCell) → list_any (put_at k) cs ≡ false → fold (put_step k) None cs ≡ None
no_put k [] h = refl
no_put k (c ∷ cs) h =
    let parts = or_parts (put_at k c) (list_any (put_at k) cs) h in
    ap (λ p. fold (put_step k) p cs) (step-other k None c parts.0) ∙ no_put k cs parts.1
