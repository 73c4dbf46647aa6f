-- An edit's items, both ways.
use Rattle.std.proofs.Common.{◌≡◌, ℕ, ◌≤◌, false, ltb, eqb, List, [], ◌∷◌, ◌++◌, length, All, None, sum_by, refl, sym, ap, subst, ◌∙◌, arith}
use Rattle.std.specs.List.{AllByRecursion}
use Rattle.std.proofs.lemmas.Bool.{le-ltb, ne_eqb}
use Rattle.std.proofs.lemmas.List.{length-append}
use Rattle.std.proofs.lemmas.List.Concat.{flat_map-cons}
use Rattle.std.proofs.lemmas.List.Sums.{sum_by-cons}
use Rattle.std.proofs.lemmas.List.Elements.{All-from_recursion, recursion_from_All}
use Rattle.byteorder.specs.Endian.{big_bytes}
use Rattle.rep_types.specs.Text.{name_refusal, key_refusal}
use Rattle.rep_types.specs.Edit.{EditValue, IsEdit, repeats, edit_length, cell_length, kind_length, edit_refusal}
use Rattle.rep_types.specs.declared.cell.Cell.{Cell}
use Rattle.rep_types.specs.declared.cell.CellKind.{CellKind}
use Rattle.rep_types.specs.declared.cell.CellKind.TheVariants.{Put, Erase}
use Rattle.wal_entry.specs.declared.decode.edit.Heading.{Heading}
use Rattle.wal_entry.specs.Judging.{Place, Whole, and_then, judge}
use Rattle.wal_entry.specs.Frame.{is_name, is_key, name, key, cells, heading, edit}
use Rattle.wal_entry.specs.Framed.{HasValue, IsTypedCell, IsTypedEdit}
use Rattle.wal_entry.specs.Spelling.{sized, cell_kind_spelling, cell_spelling, cells_spelling, edit_spelling}
use Rattle.wal_entry.proofs.Cell.{FitsCell, IsShort, name_again}
use Rattle.wal_entry.proofs.Cells.{cells_take, cells_again}
use Rattle.wal_entry.proofs.Items.{and_then_whole, of_whole, IsNumber, number_takes, number_again}
use Rattle.wal_entry.proofs.Numbers.{size_1, size_2}
use Rattle.wal_entry.proofs.Parts.{IsTextAt, text_takes, text_again}
use Rattle.wal_entry.proofs.Places.{IsBytes, IsBytes-passed, Passes, Passes-both, Passes-first, Passes-second, between}
use Rattle.wal_entry.proofs.Texts.{none_is, IsText-key}

-- ---- lengths

length-kind : (k : CellKind) → length (cell_kind_spelling k) ≡ kind_length k
length-kind (Put value) = omega (arith, length-append (big_bytes 2 (length value)) value)
length-kind Erase = refl

length-cell : (c : Cell) → length (cell_spelling c) ≡ cell_length c
length-cell c =
    omega (
      arith,
      length-append (sized 1 c.family) (sized 1 c.qualifier ++ (big_bytes 8 c.stamp ++ cell_kind_spelling c.kind)),
      length-append (sized 1 c.qualifier) (big_bytes 8 c.stamp ++ cell_kind_spelling c.kind),
      length-append (big_bytes 8 c.stamp) (cell_kind_spelling c.kind),
      length-kind c.kind,
    )

length-cells : (cs : List Cell) → length (cells_spelling cs) ≡ sum_by cell_length cs
length-cells [] = refl
length-cells (c ∷ cs) =
    ap length (flat_map-cons cell_spelling c cs) ∙ omega (arith, length-append (cell_spelling c) (cells_spelling cs), length-cell c, length-cells cs, sum_by-cons cell_length c cs)

pub length-edit : (e : EditValue) → length (edit_spelling e) ≡ edit_length e
length-edit e =
    omega (
      arith,
      length-append (sized 1 e.table) (sized 2 e.row ++ (big_bytes 1 (length e.cells) ++ cells_spelling e.cells)),
      length-append (sized 2 e.row) (big_bytes 1 (length e.cells) ++ cells_spelling e.cells),
      length-append (big_bytes 1 (length e.cells)) (cells_spelling e.cells),
      length-cells e.cells,
    )

-- ---- what the cells of an edit are

typed_cells : (cs : List Cell) → AllByRecursion FitsCell cs → AllByRecursion IsTypedCell cs
typed_cells [] h = tt
typed_cells (c ∷ cs) h = (h.0.typed, typed_cells cs h.1)

value_cells : (cs : List Cell) → AllByRecursion FitsCell cs → AllByRecursion (λ c. HasValue c.kind) cs
value_cells [] h = tt
value_cells (c ∷ cs) h = (h.0.value, value_cells cs h.1)

short_kind : (k : CellKind) → kind_length k ≤ 8192 → IsShort k
short_kind (Put value) h = omega arith
short_kind Erase h = tt

fits_cells : (cs : List Cell) → AllByRecursion IsTypedCell cs → AllByRecursion (λ c. HasValue c.kind) cs → sum_by cell_length cs ≤ 8192 → AllByRecursion FitsCell cs
fits_cells [] typed values short = tt
fits_cells (c ∷ cs) typed values short =
    (record { typed = typed.0; value = values.0; short = short_kind c.kind (omega (arith, short, sum_by-cons cell_length c cs)) }, fits_cells cs typed.1 values.1 (omega (arith, short, sum_by-cons cell_length c cs)))

-- ---- edits

pub record IsEditAt (p : Place) (e : EditValue) (q : Place) : Type 0 where
  pub passes : Passes p (edit_spelling e) q
  pub typed : IsTypedEdit e
  pub values : All (λ c. HasValue c.kind) e.cells
  pub within : q.at ≤ q.end

-- an edit begins behind the fields of a frame, which has at most 8,224 bytes
pub record HasRoom (p : Place) : Type 0 where
  pub start : 32 ≤ p.at
  pub end : p.end ≤ 8224

whole_edit : (p q : Place) (e : EditValue) (count : ℕ) → HasRoom p → Passes p (edit_spelling e) q → q.at ≤ q.end → length e.cells ≡ count → 1 ≤ count → count ≤ 64 → repeats e.cells ≡ false → IsEdit e
whole_edit p q e count room h within counted least most distinct = record {
  some = omega (arith, counted, least);
  few = omega (arith, counted, most);
  distinct = distinct;
  short = omega (arith, length-edit e, h.at, h.end, within, room.start, room.end);
}

pub edit_takes : (p q : Place) (e : EditValue) → IsBytes p.rest → HasRoom p → judge edit p ≡ Whole e q → IsEditAt p e q
unfolding edit heading name key
edit_takes p q e fits room h =
    let first = and_then_whole _ _ e q h in
    let a = and_then_whole _ _ first.0 first.1 first.2 in
    let table = text_takes 1 1 16 is_name p a.1 a.0 size_1 fits a.2 in
    let fits1 = IsBytes-passed p a.1 (sized 1 a.0) table.passes fits in
    let b = and_then_whole _ _ first.0 first.1 a.3 in
    let row = text_takes 2 1 64 is_key a.1 b.1 b.0 size_2 fits1 b.2 in
    let fits2 = IsBytes-passed a.1 b.1 (sized 2 b.0) row.passes fits1 in
    let c = and_then_whole _ _ first.0 first.1 b.3 in
    let count = number_takes 10 1 1 64 b.1 c.1 c.0 size_1 fits2 c.2 in
    let fits3 = IsBytes-passed b.1 c.1 (big_bytes 1 c.0) count.passes fits2 in
    let read : Heading = record { table = a.0; row = b.0; count = c.0 } in
    of_whole (λ head m. and_then (judge (cells head.count []) m) (λ all w. Whole (record { table = head.table; row = head.row; cells = all }) w) ≡ Whole e q → IsEditAt p e q) read first.0 c.1 first.1 c.3 (λ then.
    let d = and_then_whole _ _ e q then in
    let all = cells_take c.0 [] d.0 c.1 d.1 fits3 count.within d.2 in
    let made : EditValue = record { table = a.0; row = b.0; cells = d.0 } in
    let same : all.more ≡ d.0 = sym all.whole in
    let counted : length d.0 ≡ c.0 = ap length (sym same) ∙ all.counted in
    let fit : AllByRecursion FitsCell d.0 = subst (AllByRecursion FitsCell) same all.fits in
    let last = subst (λ (more : List Cell). Passes c.1 (cells_spelling more) d.1) same all.passes in
    let third = subst (λ (k : ℕ). Passes b.1 (big_bytes 1 k ++ cells_spelling d.0) d.1) (sym counted) (Passes-both b.1 c.1 d.1 (big_bytes 1 c.0) (cells_spelling d.0) count.passes last) in
    let second = Passes-both a.1 b.1 d.1 (sized 2 b.0) _ row.passes third in
    let whole : Passes p (edit_spelling made) d.1 = Passes-both p a.1 d.1 (sized 1 a.0) _ table.passes second in
    of_whole (λ e q. IsEditAt p e q) made e d.1 q d.3 (record {
      passes = whole;
      typed = record {
        table = none_is (name_refusal a.0) table.is_allowed;
        row = none_is (key_refusal b.0) row.is_allowed;
        cells = All-from_recursion IsTypedCell d.0 (typed_cells d.0 fit);
        whole = whole_edit p d.1 made c.0 room whole all.within counted count.least count.most (all.distinct refl);
      };
      values = All-from_recursion (λ c. HasValue c.kind) d.0 (value_cells d.0 fit);
      within = all.within;
    })) first.3

pub edit_again : (p q : Place) (e : EditValue) → IsEditAt p e q → judge edit p ≡ Whole e q
unfolding edit heading name key
edit_again p q e h =
    let s1 = sized 1 e.table in
    let s2 = sized 2 e.row in
    let s3 = big_bytes 1 (length e.cells) in
    let s4 = cells_spelling e.cells in
    let m1 = between p s1 (s2 ++ (s3 ++ s4)) q in
    let r1 = Passes-second p q s1 (s2 ++ (s3 ++ s4)) h.passes in
    let m2 = between m1 s2 (s3 ++ s4) q in
    let r2 = Passes-second m1 q s2 (s3 ++ s4) r1 in
    let m3 = between m2 s3 s4 q in
    let r3 = Passes-second m2 q s3 s4 r2 in
    let row = IsText-key e.row h.typed.row in
    let e1 = name_again p m1 e.table is_name h.typed.table (rw h.typed.table refl) (Passes-first p q s1 (s2 ++ (s3 ++ s4)) h.passes) (omega (arith, r1.at, r1.end, h.within)) in
    let key_at : IsTextAt m1 2 1 64 is_key e.row m2 = record { passes = Passes-first m1 q s2 (s3 ++ s4) r1; least = row.some; most = row.few; is_allowed = rw h.typed.row refl; within = omega (arith, r2.at, r2.end, h.within) } in
    let e2 = text_again 2 1 64 is_key m1 m2 e.row (omega arith) key_at in
    let count : IsNumber m2 1 1 64 (length e.cells) m3 = record { passes = Passes-first m2 q s3 s4 r2; least = h.typed.whole.some; most = h.typed.whole.few; within = omega (arith, r3.at, r3.end, h.within) } in
    let e3 = number_again 10 1 1 64 m2 m3 (length e.cells) (omega (arith, h.typed.whole.few)) count in
    let fit = fits_cells e.cells (recursion_from_All IsTypedCell e.cells h.typed.cells) (recursion_from_All (λ c. HasValue c.kind) e.cells h.values) (omega (arith, h.typed.whole.short)) in
    let e4 = cells_again e.cells [] m3 q fit h.typed.whole.distinct r3 h.within in
    rw (e1, e2, e3, e4) refl

-- ---- an edit of the types is not refused

pub not_refused : (e : EditValue) → IsEdit e → edit_refusal e ≡ None
not_refused e h =
    let some : eqb (length e.cells) 0 ≡ false = ne_eqb (length e.cells) 0 (λ none. omega (arith, h.some)) in
    let few : ltb 64 (length e.cells) ≡ false = le-ltb _ _ h.few in
    let short : ltb 8192 (edit_length e) ≡ false = le-ltb _ _ h.short in
    rw (some, few, h.distinct, short) refl
