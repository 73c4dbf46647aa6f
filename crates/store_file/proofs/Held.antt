-- The cells of a run that is made of bytes are such as a run can hold.
use Rattle.std.proofs.Common.{◌≡◌, ℕ, zero, suc, ◌-◌, ◌^◌, ◌<◌, ◌≤◌, Bool, true, false, eqb, List, [], ◌∷◌, ◌++◌, length, take, drop, Option, Some, None, Result, Ok, Err, refl, sym, subst, arith}
use Rattle.std.specs.Prelude.{is_none, nat_lt, if◌then◌else◌, All, IfOk}
use Rattle.std.proofs.lemmas.List.{take-append-drop}
use Rattle.std.proofs.lemmas.List.Elements.{All-nil, All-push, All-weaker}
use Rattle.byteorder.specs.Endian.{big_number}
use Rattle.byteorder.specs.Numbers.{big_from-lt}
use Rattle.rep_types.specs.Text.{name_refusal, key_refusal}
use Rattle.rep_types.specs.declared.cell.CellKind.TheVariants.{Put, Erase}
use Rattle.rep_types.specs.declared.entry.Rank.{Rank}
use Rattle.rep_types.specs.declared.text.TextError.{TextError}
use Rattle.wal_entry.specs.Frame.{is_name, is_key}
use Rattle.wal_entry.proofs.Places.{IsBytes, IsBytes-rest}
use Rattle.store_file.specs.declared.cell.RunCell.{RunCell}
use Rattle.store_file.specs.declared.error.RunError.{RunError}
use Rattle.store_file.specs.Fields.{Read, FieldsValue, and_then, front, number, text, rank_bytes, value_bytes, fields, is_allowed, cell_of}
use Rattle.store_file.specs.Order.{is_behind}
use Rattle.store_file.specs.Run.{Run, Broken, last_of, judged, ended, cells, verdict}
use Rattle.store_file.specs.Spelling.{IsShort, IsTypedCell}
use Rattle.store_file.specs.Stored.{Decodes}
use Rattle.store_file.proofs.Back.{not_cut, front_bytes, both}

some_same : {A : Type 0} (x y : A) → Some x ≡ Some y → x ≡ y
some_same x y h = cc

-- what came first, and that the rest went on from there
record Went {A B : Type 0} (o : Option (Read A)) (after : A → List ℕ → Option (Read B)) (r : Read B) : Type 0 where
  first : Read A
  is : o ≡ Some first
  on : after first.value first.rest ≡ Some r

went : {A B : Type 0} (o : Option (Read A)) (after : A → List ℕ → Option (Read B)) (r : Read B) → and_then o after ≡ Some r → Went o after r
went None after r h = absurd (cc)
went (Some a) after r h = record { first = a; is = refl; on = h }

front_rest : (size : ℕ) (bytes : List ℕ) (r : Read (List ℕ)) → IsBytes bytes → front size bytes ≡ Some r → IsBytes r.rest
unfolding front
front_rest size bytes r fits h =
    let same = not_cut _ (record { value = take size bytes; rest = drop size bytes }) r h in
    subst (λ (x : Read (List ℕ)). IsBytes x.rest) same (IsBytes-rest (take size bytes) (drop size bytes) (subst IsBytes (sym (take-append-drop size bytes)) fits))

take_short : (n : ℕ) (xs : List ℕ) → length (take n xs) ≤ n
take_short zero xs = omega arith
take_short (suc n) [] = omega arith
take_short (suc n) (x ∷ xs) = omega (arith, take_short n xs)

front_short : (size : ℕ) (bytes : List ℕ) (r : Read (List ℕ)) → front size bytes ≡ Some r → length r.value ≤ size
unfolding front
front_short size bytes r h =
    let same = not_cut _ (record { value = take size bytes; rest = drop size bytes }) r h in
    subst (λ (x : Read (List ℕ)). length x.value ≤ size) same (take_short size bytes)

number_fits : (size : ℕ) (bytes : List ℕ) (r : Read ℕ) → IsBytes bytes → number size bytes ≡ Some r → (r.value < 256 ^ size) × IsBytes r.rest
unfolding number
number_fits size bytes r fits h =
    let w = went (front size bytes) (λ digits rest. Some (record { value = big_number size digits; rest = rest })) r h in
    subst (λ (x : Read ℕ). (x.value < 256 ^ size) × IsBytes x.rest) (some_same (record { value = big_number size w.first.value; rest = w.first.rest }) r w.on)
    (big_from-lt 0 size w.first.value (front_bytes size bytes w.first fits w.is), front_rest size bytes w.first fits w.is)

text_fits : (size : ℕ) (bytes : List ℕ) (r : Read (List ℕ)) → IsBytes bytes → text size bytes ≡ Some r → (length r.value < 256 ^ size) × IsBytes r.rest
unfolding text
text_fits size bytes r fits h =
    let w = went (number size bytes) (λ long rest. front long rest) r h in
    let long = number_fits size bytes w.first fits w.is in
    (omega (arith, long.0, front_short w.first.value w.first.rest r w.on), front_rest w.first.value w.first.rest r long.1 w.on)

record IsRank (r : Rank) : Type 0 where
  generation : r.generation < 2 ^ 16
  seq : r.seq < 2 ^ 64
  replay : r.replay < 2 ^ 32

abbrev replay_on : ℕ → ℕ → List ℕ → Option (Read Rank)
replay_on generation seq rest = and_then (number 4 rest) (λ replay rest. Some (record { value = record { generation = generation; seq = seq; replay = replay }; rest = rest }))

abbrev seq_on : ℕ → List ℕ → Option (Read Rank)
seq_on generation rest = and_then (number 8 rest) (replay_on generation)

rank_fits : (bytes : List ℕ) (r : Read Rank) → IsBytes bytes → rank_bytes bytes ≡ Some r → IsRank r.value × IsBytes r.rest
unfolding rank_bytes
rank_fits bytes r fits h =
    let a = went (number 2 bytes) seq_on r h in
    let generation = number_fits 2 bytes a.first fits a.is in
    let b = went (number 8 a.first.rest) (replay_on a.first.value) r a.on in
    let seq = number_fits 8 a.first.rest b.first generation.1 b.is in
    let d = went (number 4 b.first.rest) (λ replay rest. Some (record { value = record { generation = a.first.value; seq = b.first.value; replay = replay }; rest = rest })) r b.on in
    let replay = number_fits 4 b.first.rest d.first seq.1 d.is in
    subst (λ (x : Read Rank). IsRank x.value × IsBytes x.rest) (some_same (record { value = record { generation = a.first.value; seq = b.first.value; replay = d.first.value }; rest = d.first.rest }) r d.on)
    (record { generation = omega (arith, generation.0); seq = omega (arith, seq.0); replay = omega (arith, replay.0) }, replay.1)

value_fits : (kind : ℕ) (bytes : List ℕ) (r : Read (List ℕ)) → IsBytes bytes → value_bytes kind bytes ≡ Some r → (length r.value ≤ 65535) × IsBytes r.rest
unfolding value_bytes
value_fits kind bytes r fits h = by_kind (eqb kind 1) h
  where
    by_kind : (put : Bool) → (if put then text 2 bytes else front 0 bytes) ≡ Some r → (length r.value ≤ 65535) × IsBytes r.rest
    by_kind true g =
        let t = text_fits 2 bytes r fits g in
        (omega (arith, t.0), t.1)
    by_kind false g = (omega (arith, front_short 0 bytes r g), front_rest 0 bytes r fits g)

-- the numbers of a cell's fields fit, and its value
record Fit (f : FieldsValue) : Type 0 where
  stamp : f.stamp < 2 ^ 64
  rank : IsRank f.rank
  value : length f.value ≤ 65535

abbrev value_on : List ℕ → List ℕ → List ℕ → ℕ → ℕ → Rank → List ℕ → Option (Read FieldsValue)
value_on row family qualifier stamp kind rank rest =
    and_then (value_bytes kind rest) (λ value rest. Some (record {
      value = record { row = row; family = family; qualifier = qualifier; stamp = stamp; kind = kind; rank = rank; value = value };
      rest = rest;
    }))

abbrev rank_on : List ℕ → List ℕ → List ℕ → ℕ → ℕ → List ℕ → Option (Read FieldsValue)
rank_on row family qualifier stamp kind rest = and_then (rank_bytes rest) (value_on row family qualifier stamp kind)

abbrev kind_on : List ℕ → List ℕ → List ℕ → ℕ → List ℕ → Option (Read FieldsValue)
kind_on row family qualifier stamp rest = and_then (number 1 rest) (rank_on row family qualifier stamp)

abbrev stamp_on : List ℕ → List ℕ → List ℕ → List ℕ → Option (Read FieldsValue)
stamp_on row family qualifier rest = and_then (number 8 rest) (kind_on row family qualifier)

abbrev qualifier_on : List ℕ → List ℕ → List ℕ → Option (Read FieldsValue)
qualifier_on row family rest = and_then (text 1 rest) (stamp_on row family)

abbrev family_on : List ℕ → List ℕ → Option (Read FieldsValue)
family_on row rest = and_then (text 1 rest) (qualifier_on row)

value_last : (row family qualifier : List ℕ) (stamp kind : ℕ) (rank : Rank) (bytes : List ℕ) (r : Read FieldsValue) → stamp < 2 ^ 64 → IsRank rank → IsBytes bytes
    → value_on row family qualifier stamp kind rank bytes ≡ Some r → Fit r.value × IsBytes r.rest
value_last row family qualifier stamp kind rank bytes r s k fits h =
    let w = went (value_bytes kind bytes) (λ value rest. Some (record {
      value = record { row = row; family = family; qualifier = qualifier; stamp = stamp; kind = kind; rank = rank; value = value };
      rest = rest;
    })) r h in
    let v = value_fits kind bytes w.first fits w.is in
    let whole : Read FieldsValue = record {
      value = record { row = row; family = family; qualifier = qualifier; stamp = stamp; kind = kind; rank = rank; value = w.first.value };
      rest = w.first.rest;
    } in
    subst (λ (x : Read FieldsValue). Fit x.value × IsBytes x.rest) (some_same whole r w.on) (record { stamp = s; rank = k; value = v.0 }, v.1)

fields_fit : (bytes : List ℕ) (r : Read FieldsValue) → IsBytes bytes → fields bytes ≡ Some r → Fit r.value × IsBytes r.rest
unfolding fields
fields_fit bytes r fits h =
    let a = went (text 2 bytes) family_on r h in
    let row = text_fits 2 bytes a.first fits a.is in
    let b = went (text 1 a.first.rest) (qualifier_on a.first.value) r a.on in
    let family = text_fits 1 a.first.rest b.first row.1 b.is in
    let d = went (text 1 b.first.rest) (stamp_on a.first.value b.first.value) r b.on in
    let qualifier = text_fits 1 b.first.rest d.first family.1 d.is in
    let e = went (number 8 d.first.rest) (kind_on a.first.value b.first.value d.first.value) r d.on in
    let stamp = number_fits 8 d.first.rest e.first qualifier.1 e.is in
    let f = went (number 1 e.first.rest) (rank_on a.first.value b.first.value d.first.value e.first.value) r e.on in
    let kind = number_fits 1 e.first.rest f.first stamp.1 f.is in
    let g = went (rank_bytes f.first.rest) (value_on a.first.value b.first.value d.first.value e.first.value f.first.value) r f.on in
    let rank = rank_fits f.first.rest g.first kind.1 g.is in
    value_last a.first.value b.first.value d.first.value e.first.value f.first.value g.first.value g.first.rest r (omega (arith, stamp.0)) rank.0 rank.1 g.on

pub record IsHeld (c : RunCell) : Type 0 where
  pub typed : IsTypedCell c
  pub short : IsShort c.kind

none_of : (o : Option TextError) → is_none o ≡ true → o ≡ None
none_of None h = refl
none_of (Some e) h = absurd (cc)

cell_held : (f : FieldsValue) → is_allowed f ≡ true → Fit f → IsHeld (cell_of f)
cell_held f may fit =
    let row = both (is_key f.row) _ may in
    let family = both (is_name f.family) _ row.1 in
    let qualifier = both (is_name f.qualifier) _ family.1 in
    record {
      typed = record {
        row = none_of (key_refusal f.row) row.0;
        family = none_of (name_refusal f.family) family.0;
        qualifier = none_of (name_refusal f.qualifier) qualifier.0;
        stamp = fit.stamp;
        generation = fit.rank.generation;
        seq = fit.rank.seq;
        replay = fit.rank.replay;
      };
      short = by_kind (eqb f.kind 1);
    }
  where
    by_kind : (put : Bool) → IsShort (if put then Put f.value else Erase)
    by_kind true = fit.value
    by_kind false = tt

pub ended_so : (total : ℕ) (earlier : List RunCell) (bytes : List ℕ) (all : List RunCell) → ended total earlier bytes ≡ Run all → earlier ≡ all
ended_so total earlier [] all h = cc
ended_so total earlier (b ∷ bytes) all h = absurd (cc)

cells_held : (total more : ℕ) (earlier : List RunCell) (bytes : List ℕ) (all : List RunCell) → IsBytes bytes → All IsHeld earlier → cells total more earlier bytes ≡ Run all → All IsHeld all
unfolding cells
cells_held total zero earlier bytes all fits held h = subst (λ (cs : List RunCell). All IsHeld cs) (ended_so total earlier bytes all h) held
cells_held total (suc more) earlier bytes all fits held h = one (fields bytes) refl (λ c rest b g. cells_held total more (earlier ++ c ∷ []) rest all b g) h
  where
    tested : (r : Read FieldsValue) (allowed behind : Bool) → is_allowed r.value ≡ allowed → Fit r.value → (All IsHeld (earlier ++ cell_of r.value ∷ []) → cells total more (earlier ++ cell_of r.value ∷ []) r.rest ≡ Run all → All IsHeld all)
        → (if allowed then (if behind then cells total more (earlier ++ cell_of r.value ∷ []) r.rest else Broken (total - length bytes) 3) else Broken (total - length bytes) 2) ≡ Run all
        → All IsHeld all
    tested r false behind e fit go g = absurd (cc)
    tested r true false e fit go g = absurd (cc)
    tested r true true e fit go g = go (All-push IsHeld earlier (cell_of r.value) held (cell_held r.value e fit)) g

    one : (o : Option (Read FieldsValue)) → fields bytes ≡ o → ((c : RunCell) (rest : List ℕ) → IsBytes rest → All IsHeld (earlier ++ c ∷ []) → cells total more (earlier ++ c ∷ []) rest ≡ Run all → All IsHeld all)
        → judged total earlier bytes o (λ c rest. cells total more (earlier ++ c ∷ []) rest) ≡ Run all → All IsHeld all
    one None e go g = absurd (cc)
    one (Some r) e go g =
        let fit = fields_fit bytes r fits e in
        tested r (is_allowed r.value) (is_behind (last_of earlier) (cell_of r.value)) refl fit.0 (go (cell_of r.value) r.rest fit.1) g

run_held : (bytes : List ℕ) (all : List RunCell) → IsBytes bytes → verdict bytes ≡ Run all → All IsHeld all
unfolding verdict
run_held bytes all fits h = long (nat_lt (length bytes) 8) (big_number 8 bytes) h
  where
    behind : IsBytes (drop 8 bytes)
    behind = IsBytes-rest (take 8 bytes) (drop 8 bytes) (subst IsBytes (sym (take-append-drop 8 bytes)) fits)

    long : (short : Bool) (n : ℕ) → (if short then Broken 0 1 else cells (length bytes) n [] (drop 8 bytes)) ≡ Run all → All IsHeld all
    long true n g = absurd (cc)
    long false n g = cells_held (length bytes) n [] (drop 8 bytes) all behind (All-nil IsHeld) g

-- as the answer has it
pub typed_so : (r : Result (List RunCell) RunError) (bytes : List ℕ) → IsBytes bytes → Decodes r (verdict bytes) → IfOk r (λ all. All IsTypedCell all)
typed_so (Ok all) bytes fits h = All-weaker IsHeld IsTypedCell (λ c k. k.typed) all (run_held bytes all fits h)
typed_so (Err e) bytes fits h = tt

pub short_so : (r : Result (List RunCell) RunError) (bytes : List ℕ) → IsBytes bytes → Decodes r (verdict bytes) → IfOk r (λ all. All (λ (c : RunCell). IsShort c.kind) all)
short_so (Ok all) bytes fits h = All-weaker IsHeld (λ (c : RunCell). IsShort c.kind) (λ c k. k.short) all (run_held bytes all fits h)
short_so (Err e) bytes fits h = tt
