-- A cell's items, both ways.
use Rattle.std.proofs.Common.{◌≡◌, ℕ, ◌-◌, ◌^◌, ◌≤◌, Bool, true, false, not, eqb, List, [], ◌∷◌, ◌++◌, length, None, refl, sym, arith, inl, inr, ◌⊎◌}
use Rattle.std.specs.Prelude.{◌&&◌}
use Rattle.std.proofs.lemmas.Bool.{eqb-true, eqb-false}
use Rattle.byteorder.specs.Endian.{big_bytes}
use Rattle.rep_types.specs.Text.{name_refusal}
use Rattle.rep_types.specs.declared.cell.Cell.{Cell}
use Rattle.rep_types.specs.declared.cell.CellKind.{CellKind}
use Rattle.rep_types.specs.declared.cell.CellKind.TheVariants.{Put, Erase}
use Rattle.wal_entry.specs.Judging.{Place, Grammar, Known, Then, Whole, judge, choose}
use Rattle.wal_entry.specs.Frame.{is_name, is_value, has_column, text, name, qualifier, value, cell_kind, cell}
use Rattle.wal_entry.specs.Framed.{HasValue, IsTypedCell}
use Rattle.wal_entry.specs.Spelling.{sized, cell_kind_spelling, cell_spelling}
use Rattle.wal_entry.proofs.Items.{and_then_whole, of_whole, IsNumber, number_takes, number_again}
use Rattle.wal_entry.proofs.Numbers.{size_1, size_2, size_8}
use Rattle.wal_entry.proofs.Parts.{IsTextAt, text_takes, text_again}
use Rattle.wal_entry.proofs.Places.{IsBytes, IsBytes-passed, Passes, Passes-both, Passes-first, Passes-second, between}
use Rattle.wal_entry.proofs.Texts.{none_is, IsText-name}

-- one of two choices stands whole
pub choose_whole : {A : Type 0} (b : Bool) (f g : Grammar A) (p q : Place) (x : A) → judge (choose b f g) p ≡ Whole x q
    → ((b ≡ true) × (judge f p ≡ Whole x q)) ⊎ ((b ≡ false) × (judge g p ≡ Whole x q))
choose_whole true f g p q x h = inl (refl, h)
choose_whole false f g p q x h = inr (refl, h)

pub both_true : (a b : Bool) → (a && b) ≡ true → (a ≡ true) × (b ≡ true)
both_true true b h = (refl, h)
both_true false b h = absurd (cc)

pub not_true : (b : Bool) → not b ≡ true → b ≡ false
not_true true h = sym h
not_true false h = refl

-- ---- put or delete

-- a put's value fits an item
abbrev pub IsShort : CellKind → Type 0
IsShort (Put bytes) = length bytes ≤ 16384
IsShort Erase = Unit {0}

pub record IsKindAt (p : Place) (kind : CellKind) (q : Place) : Type 0 where
  pub passes : Passes p (cell_kind_spelling kind) q
  pub value : HasValue kind
  pub short : IsShort kind
  pub within : q.at ≤ q.end

put_takes : (p m q : Place) (kind : CellKind) → IsBytes m.rest → Passes p (1 ∷ []) m → judge (Then value (λ bytes. Known (Put bytes))) m ≡ Whole kind q → IsKindAt p kind q
unfolding value
put_takes p m q kind fits first h =
    let a = and_then_whole _ _ kind q h in
    let t = text_takes 2 0 16384 is_value m a.1 a.0 size_2 fits a.2 in
    of_whole (λ kind q. IsKindAt p kind q) (Put a.0) kind a.1 q a.3 (record {
      passes = Passes-both p m a.1 (1 ∷ []) (sized 2 a.0) first t.passes;
      value = t.is_allowed;
      short = t.most;
      within = t.within;
    })

pub kind_takes : (p q : Place) (kind : CellKind) → IsBytes p.rest → judge cell_kind p ≡ Whole kind q → IsKindAt p kind q
unfolding cell_kind
kind_takes p q kind fits h =
    let a = and_then_whole _ _ kind q h in
    let n = number_takes 10 1 1 2 p a.1 a.0 size_1 fits a.2 in
    elim (choose_whole (eqb a.0 1) (Then value (λ bytes. Known (Put bytes))) (Known Erase) a.1 q kind a.3) [
      | inl put ↦ put_takes p a.1 q kind (IsBytes-passed p a.1 (big_bytes 1 a.0) n.passes fits) (rw (eqb-true a.0 1 put.0) at n.passes) put.1
      | inr erase ↦
          let two : a.0 ≡ 2 = omega (arith, n.least, n.most, eqb-false a.0 1 erase.0) in
          of_whole (λ kind q. IsKindAt p kind q) Erase kind a.1 q erase.1 (record { passes = rw two at n.passes; value = tt; short = tt; within = n.within })
    ]

pub kind_again : (p q : Place) (kind : CellKind) → IsKindAt p kind q → judge cell_kind p ≡ Whole kind q
unfolding cell_kind value
kind_again p q (Put bytes) h =
    let second = Passes-second p q (1 ∷ []) (sized 2 bytes) h.passes in
    let m = between p (1 ∷ []) (sized 2 bytes) q in
    let first : IsNumber p 1 1 2 1 m = record { passes = Passes-first p q (1 ∷ []) (sized 2 bytes) h.passes; least = omega arith; most = omega arith; within = omega (arith, second.at, second.end, h.within) } in
    let t : IsTextAt m 2 0 16384 is_value bytes q = record { passes = second; least = omega arith; most = h.short; is_allowed = h.value; within = h.within } in
    rw (number_again 10 1 1 2 p m 1 (omega arith) first, text_again 2 0 16384 is_value m q bytes (omega arith) t) refl
kind_again p q Erase h =
    let first : IsNumber p 1 1 2 2 q = record { passes = h.passes; least = omega arith; most = omega arith; within = h.within } in
    rw (number_again 10 1 1 2 p q 2 (omega arith) first) refl

-- ---- cells

pub record FitsCell (c : Cell) : Type 0 where
  pub typed : IsTypedCell c
  pub value : HasValue c.kind
  pub short : IsShort c.kind

pub record IsCellAt (p : Place) (earlier : List Cell) (c : Cell) (q : Place) : Type 0 where
  pub passes : Passes p (cell_spelling c) q
  pub fits : FitsCell c
  pub new : has_column earlier c.family c.qualifier ≡ false
  pub within : q.at ≤ q.end

pub cell_takes : (earlier : List Cell) (p q : Place) (c : Cell) → IsBytes p.rest → judge (cell earlier) p ≡ Whole c q → IsCellAt p earlier c q
unfolding cell name qualifier
cell_takes earlier p q c fits h =
    let a = and_then_whole _ _ c q h in
    let family = text_takes 1 1 16 is_name p a.1 a.0 size_1 fits a.2 in
    let fits1 = IsBytes-passed p a.1 (sized 1 a.0) family.passes fits in
    let b = and_then_whole _ _ c q a.3 in
    let column = text_takes 1 1 16 (λ name. is_name name && not (has_column earlier a.0 name)) a.1 b.1 b.0 size_1 fits1 b.2 in
    let fits2 = IsBytes-passed a.1 b.1 (sized 1 b.0) column.passes fits1 in
    let d = and_then_whole _ _ c q b.3 in
    let stamp = number_takes 10 8 0 (2 ^ 64 - 1) b.1 d.1 d.0 size_8 fits2 d.2 in
    let fits3 = IsBytes-passed b.1 d.1 (big_bytes 8 d.0) stamp.passes fits2 in
    let e = and_then_whole _ _ c q d.3 in
    let kind = kind_takes d.1 e.1 e.0 fits3 e.2 in
    let parts = both_true (is_name b.0) (not (has_column earlier a.0 b.0)) column.is_allowed in
    let made : Cell = record { family = a.0; qualifier = b.0; stamp = d.0; kind = e.0 } in
    let third = Passes-both b.1 d.1 e.1 (big_bytes 8 d.0) (cell_kind_spelling e.0) stamp.passes kind.passes in
    let second = Passes-both a.1 b.1 e.1 (sized 1 b.0) _ column.passes third in
    of_whole (λ c q. IsCellAt p earlier c q) made c e.1 q e.3 (record {
      passes = Passes-both p a.1 e.1 (sized 1 a.0) _ family.passes second;
      fits = record {
        typed = record { family = none_is (name_refusal a.0) family.is_allowed; qualifier = none_is (name_refusal b.0) parts.0; stamp = omega (arith, stamp.most) };
        value = kind.value;
        short = kind.short;
      };
      new = not_true (has_column earlier a.0 b.0) parts.1;
      within = kind.within;
    })

pub name_again : (p q : Place) (t : List ℕ) (allowed : List ℕ → Bool) → name_refusal t ≡ None → allowed t ≡ true → Passes p (sized 1 t) q → q.at ≤ q.end → judge (text 1 1 16 allowed) p ≡ Whole t q
name_again p q t allowed h is_allowed passes within =
    let long = IsText-name t h in
    text_again 1 1 16 allowed p q t (omega arith) (record { passes = passes; least = long.some; most = long.few; is_allowed = is_allowed; within = within })

pub cell_again : (earlier : List Cell) (p q : Place) (c : Cell) → IsCellAt p earlier c q → judge (cell earlier) p ≡ Whole c q
unfolding cell name qualifier
cell_again earlier p q c h =
    let s1 = sized 1 c.family in
    let s2 = sized 1 c.qualifier in
    let s3 = big_bytes 8 c.stamp in
    let s4 = cell_kind_spelling c.kind in
    let m1 = between p s1 (s2 ++ (s3 ++ s4)) q in
    let r1 = Passes-second p q s1 (s2 ++ (s3 ++ s4)) h.passes in
    let m2 = between m1 s2 (s3 ++ s4) q in
    let r2 = Passes-second m1 q s2 (s3 ++ s4) r1 in
    let m3 = between m2 s3 s4 q in
    let r3 = Passes-second m2 q s3 s4 r2 in
    let e1 = name_again p m1 c.family is_name h.fits.typed.family (rw h.fits.typed.family refl) (Passes-first p q s1 (s2 ++ (s3 ++ s4)) h.passes) (omega (arith, r1.at, r1.end, h.within)) in
    let e2 = name_again m1 m2 c.qualifier (λ name. is_name name && not (has_column earlier c.family name)) h.fits.typed.qualifier (rw (h.fits.typed.qualifier, h.new) refl) (Passes-first m1 q s2 (s3 ++ s4) r1) (omega (arith, r2.at, r2.end, h.within)) in
    let stamp : IsNumber m2 8 0 (2 ^ 64 - 1) c.stamp m3 = record { passes = Passes-first m2 q s3 s4 r2; least = omega arith; most = omega (arith, h.fits.typed.stamp); within = omega (arith, r3.at, r3.end, h.within) } in
    let e3 = number_again 10 8 0 (2 ^ 64 - 1) m2 m3 c.stamp (omega (arith, h.fits.typed.stamp)) stamp in
    let e4 = kind_again m3 q c.kind (record { passes = r3; value = h.fits.value; short = h.fits.short; within = h.within }) in
    rw (e1, e2, e3, e4) refl
