-- What was written is read back.
use Rattle.std.proofs.Common.{◌≡◌, ℕ, lit<, ◌-◌, ◌^◌, ◌<◌, ◌&&◌, ◌||◌, Bool, true, false, cond, eqb, List, [], ◌∷◌, ◌++◌, length, take, drop, slice_get, Option, Some, None, refl, sym, ap, subst, ◌∙◌, append_assoc, arith, length-append}
use Rattle.std.specs.Prelude.{is_none, All}
use Rattle.std.specs.List.{flat_map}
use Rattle.std.proofs.lemmas.Bool.{le-ltb}
use Rattle.std.proofs.lemmas.List.{take-append-drop, append-nil}
use Rattle.std.proofs.lemmas.List.Elements.{All-head, All-tail}
use Rattle.std.proofs.Math.Seq.{take_at, drop_at}
use Rattle.byteorder.specs.Endian.{big_number, big_bytes}
use Rattle.byteorder.specs.Numbers.{big_number-reads_back, length-bytes_high_first}
use Rattle.rep_types.specs.Text.{name_refusal, key_refusal}
use Rattle.rep_types.specs.declared.cell.CellKind.{CellKind}
use Rattle.rep_types.specs.declared.cell.CellKind.TheVariants.{Put, Erase}
use Rattle.rep_types.specs.declared.entry.Rank.{Rank}
use Rattle.rep_types.specs.declared.text.TextError.{TextError}
use Rattle.wal_entry.specs.Spelling.{sized}
use Rattle.wal_entry.proofs.Places.{IsBytes, IsBytes-front}
use Rattle.wal_entry.proofs.Texts.{IsText-name, IsText-key}
use Rattle.store_file.specs.declared.cell.RunCell.{RunCell}
use Rattle.store_file.specs.Order.{is_behind, are_behind, are_in_order}
use Rattle.store_file.specs.Fields.{Read, FieldsValue, front, number, text, rank_bytes, value_bytes, fields, is_allowed, kind_of, cell_of}
use Rattle.store_file.specs.Run.{Run, last_of, cells, verdict}
use Rattle.store_file.specs.Spelling.{kind_number, value_spelling, rank_spelling, place_spelling, version_spelling, cell_spelling, run_spelling, IsShort, IsTypedCell}
use Rattle.store_file.proofs.Judged.{one_taken, all_there, verdict_begins}

pub not_cut : {A : Type 0} (b : Bool) (x r : A) → cond b None (Some x) ≡ Some r → x ≡ r
not_cut true x r h = absurd (cc)
not_cut false x r h = cc

-- the first bytes are bytes
pub front_bytes : (size : ℕ) (bytes : List ℕ) (r : Read (List ℕ)) → IsBytes bytes → front size bytes ≡ Some r → IsBytes r.value
unfolding front
front_bytes size bytes r fits h =
    let same = not_cut _ (record { value = take size bytes; rest = drop size bytes }) r h in
    subst (λ (x : Read (List ℕ)). IsBytes x.value) same (IsBytes-front (take size bytes) (drop size bytes) (subst IsBytes (sym (take-append-drop size bytes)) fits))

-- ---- the parts of a cell

front_back : (size : ℕ) (a b : List ℕ) → length a ≡ size → front size (a ++ b) ≡ Some (record { value = a; rest = b })
unfolding front
front_back size a b long =
    rw (le-ltb (length (a ++ b)) size (omega (arith, length-append a b, long)), take_at a b size long, drop_at a b size long) refl

number_back : (size n : ℕ) (rest : List ℕ) → n < 256 ^ size → number size (big_bytes size n ++ rest) ≡ Some (record { value = n; rest = rest })
unfolding number
number_back size n rest fits =
    let whole : big_number size (big_bytes size n) ≡ n = ap (big_number size) (sym (append-nil (big_bytes size n))) ∙ big_number-reads_back size n [] fits in
    rw (front_back size (big_bytes size n) rest (length-bytes_high_first size n), whole) refl

text_back : (size : ℕ) (t rest : List ℕ) → length t < 256 ^ size → text size (sized size t ++ rest) ≡ Some (record { value = t; rest = rest })
unfolding text
text_back size t rest fits =
    rw (append_assoc (big_bytes size (length t)) t rest, number_back size (length t) (t ++ rest) fits) (front_back (length t) t rest refl)

rank_back : (r : Rank) (rest : List ℕ) → r.generation < 2 ^ 16 → r.seq < 2 ^ 64 → r.replay < 2 ^ 32 → rank_bytes (rank_spelling r ++ rest) ≡ Some (record { value = r; rest = rest })
unfolding rank_bytes
rank_back r rest generation seq replay =
    let a = big_bytes 2 r.generation in
    let b = big_bytes 8 r.seq in
    let d = big_bytes 4 r.replay in
    rw (
      append_assoc a (b ++ d) rest,
      append_assoc b d rest,
      number_back 2 r.generation (b ++ (d ++ rest)) (omega (arith, generation)),
      number_back 8 r.seq (d ++ rest) (omega (arith, seq)),
      number_back 4 r.replay rest (omega (arith, replay)),
    ) refl

-- the value that a cell's fields have
abbrev value_in : CellKind → List ℕ
value_in (Put value) = value
value_in Erase = []

value_back : (k : CellKind) (rest : List ℕ) → IsShort k → value_bytes (kind_number k) (value_spelling k ++ rest) ≡ Some (record { value = value_in k; rest = rest })
unfolding value_bytes
value_back (Put value) rest short = text_back 2 value rest (omega (arith, short))
value_back Erase rest short = front_back 0 [] rest refl

kind_back : (k : CellKind) (rest : List ℕ) → number 1 (kind_number k ∷ rest) ≡ Some (record { value = kind_number k; rest = rest })
kind_back (Put value) rest = number_back 1 1 rest (lit< tt)
kind_back Erase rest = number_back 1 2 rest (lit< tt)

abbrev fields_of : RunCell → FieldsValue
fields_of c = record { row = c.row; family = c.family; qualifier = c.qualifier; stamp = c.stamp; kind = kind_number c.kind; rank = c.rank; value = value_in c.kind }

kind_same : (c : RunCell) (k : CellKind) → kind_of (fields_of (record c { kind = k })) ≡ k
kind_same c (Put value) = refl
kind_same c Erase = refl

cell_same : (c : RunCell) → cell_of (fields_of c) ≡ c
cell_same c = ap (λ (k : CellKind). record c { kind = k }) (kind_same c c.kind)

spelled : (c : RunCell) (rest : List ℕ) → cell_spelling c ++ rest
    ≡ sized 2 c.row ++ (sized 1 c.family ++ (sized 1 c.qualifier ++ (big_bytes 8 c.stamp ++ (kind_number c.kind ∷ (rank_spelling c.rank ++ (value_spelling c.kind ++ rest))))))
spelled c rest =
    append_assoc (place_spelling c) (version_spelling c) rest
    ∙ append_assoc (sized 2 c.row) (sized 1 c.family ++ sized 1 c.qualifier) (version_spelling c ++ rest)
    ∙ ap (λ (t : List ℕ). sized 2 c.row ++ t) (append_assoc (sized 1 c.family) (sized 1 c.qualifier) (version_spelling c ++ rest))
    ∙ ap (λ (t : List ℕ). sized 2 c.row ++ (sized 1 c.family ++ (sized 1 c.qualifier ++ t)))
    (append_assoc (big_bytes 8 c.stamp) (kind_number c.kind ∷ rank_spelling c.rank ++ value_spelling c.kind) rest
    ∙ ap (λ (t : List ℕ). big_bytes 8 c.stamp ++ (kind_number c.kind ∷ t)) (append_assoc (rank_spelling c.rank) (value_spelling c.kind) rest))

row_short : (row : List ℕ) → key_refusal row ≡ None → length row < 256 ^ 2
row_short row h = omega (arith, (IsText-key row h).few)

name_short : (name : List ℕ) → name_refusal name ≡ None → length name < 256 ^ 1
name_short name h = omega (arith, (IsText-name name h).few)

fields_back : (c : RunCell) (rest : List ℕ) → IsTypedCell c → IsShort c.kind → fields (cell_spelling c ++ rest) ≡ Some (record { value = fields_of c; rest = rest })
unfolding fields
fields_back c rest typed short =
    let after_rank = value_spelling c.kind ++ rest in
    let after_kind = rank_spelling c.rank ++ after_rank in
    let after_stamp = kind_number c.kind ∷ after_kind in
    let after_qualifier = big_bytes 8 c.stamp ++ after_stamp in
    let after_family = sized 1 c.qualifier ++ after_qualifier in
    let after_row = sized 1 c.family ++ after_family in
    rw (
      spelled c rest,
      text_back 2 c.row after_row (row_short c.row typed.row),
      text_back 1 c.family after_family (name_short c.family typed.family),
      text_back 1 c.qualifier after_qualifier (name_short c.qualifier typed.qualifier),
      number_back 8 c.stamp after_stamp (omega (arith, typed.stamp)),
      kind_back c.kind after_kind,
      rank_back c.rank after_rank typed.generation typed.seq typed.replay,
      value_back c.kind rest short,
    ) refl

none_there : (o : Option TextError) → o ≡ None → is_none o ≡ true
none_there o h = ap is_none h

kind_allowed : (k : CellKind) → (eqb (kind_number k) 1 || eqb (kind_number k) 2) ≡ true
kind_allowed (Put value) = refl
kind_allowed Erase = refl

allowed_back : (c : RunCell) → IsTypedCell c → is_allowed (fields_of c) ≡ true
allowed_back c typed = rw (typed.row, typed.family, typed.qualifier) (kind_allowed c.kind)

-- ---- all cells

got_last : (xs : List RunCell) (c : RunCell) → slice_get (xs ++ c ∷ []) (length xs) ≡ Some c
got_last [] c = refl
got_last (x ∷ xs) c = got_last xs c

last_pushed : (xs : List RunCell) (c : RunCell) → last_of (xs ++ c ∷ []) ≡ Some c
last_pushed xs c =
    let last : length (xs ++ c ∷ []) - 1 ≡ length xs = omega (arith, length-append xs (c ∷ [])) in
    ap (slice_get (xs ++ c ∷ [])) last ∙ got_last xs c

pub both : (a b : Bool) → (a && b) ≡ true → (a ≡ true) × (b ≡ true)
both true true h = (refl, refl)
both true false h = absurd (cc)
both false b h = absurd (cc)

cells_back : (total : ℕ) (earlier xs : List RunCell) → are_behind (last_of earlier) xs ≡ true → All IsTypedCell xs → All (λ (c : RunCell). IsShort c.kind) xs
    → cells total (length xs) earlier (flat_map cell_spelling xs) ≡ Run (earlier ++ xs)
cells_back total earlier [] order typed short = all_there total earlier [] ∙ ap Run (sym (append-nil earlier))
cells_back total earlier (c ∷ xs) order typed short =
    let rest = flat_map cell_spelling xs in
    let parts = both (is_behind (last_of earlier) c) (are_behind (Some c) xs) order in
    let here = All-head IsTypedCell c xs typed in
    let r : Read FieldsValue = record { value = fields_of c; rest = rest } in
    let behind : is_behind (last_of earlier) (cell_of (fields_of c)) ≡ true = ap (is_behind (last_of earlier)) (cell_same c) ∙ parts.0 in
    one_taken total (length xs) earlier (cell_spelling c ++ rest) r (fields_back c rest here (All-head (λ (c : RunCell). IsShort c.kind) c xs short)) (allowed_back c here) behind
    ∙ ap (λ (d : RunCell). cells total (length xs) (earlier ++ d ∷ []) rest) (cell_same c)
    ∙ cells_back total (earlier ++ c ∷ []) xs (ap (λ o. are_behind o xs) (last_pushed earlier c) ∙ parts.1) (All-tail IsTypedCell c xs typed) (All-tail (λ (c : RunCell). IsShort c.kind) c xs short)
    ∙ ap Run (append_assoc earlier (c ∷ []) xs)

pub run_back : (xs : List RunCell) → are_in_order xs ≡ true → All IsTypedCell xs → All (λ (c : RunCell). IsShort c.kind) xs → length xs < 2 ^ 64 → verdict (run_spelling xs) ≡ Run xs
unfolding run_spelling
run_back xs order typed short few =
    let n = big_bytes 8 (length xs) in
    let rest = flat_map cell_spelling xs in
    let long : length n ≡ 8 = length-bytes_high_first 8 (length xs) in
    let count : big_number 8 (n ++ rest) ≡ length xs = big_number-reads_back 8 (length xs) rest (omega (arith, few)) in
    verdict_begins (n ++ rest) (omega (arith, long, length-append n rest))
    ∙ ap (λ (k : ℕ). cells (length (n ++ rest)) k [] (drop 8 (n ++ rest))) count
    ∙ ap (λ (t : List ℕ). cells (length (n ++ rest)) (length xs) [] t) (drop_at n rest 8 long)
    ∙ cells_back (length (n ++ rest)) [] xs order typed short
