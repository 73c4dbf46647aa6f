-- The verdict on a spelling is its entry, and bytes with that verdict begin with the spelling.
use Rattle.std.proofs.Common.{◌≡◌, ℕ, ◌+◌, ◌-◌, ◌%◌, ◌^◌, ◌<◌, ◌≤◌, true, eqb, List, [], ◌++◌, length, drop, refl, sym, ap, subst, ◌∙◌, append_assoc, arith, lit≤}
use Rattle.std.specs.Prelude.{IfOk, Result, Ok, Err}
use Rattle.std.specs.Int.{is_in_range}
use Rattle.std.proofs.lemmas.Bool.{eqb-true}
use Rattle.std.proofs.lemmas.Bool.Decides.{nat_tests}
use Rattle.std.proofs.lemmas.List.{length-append, length-replicate, append-nil, drop_at}
use Rattle.byteorder.specs.Endian.{big_bytes, big_number}
use Rattle.byteorder.specs.Numbers.{big_number-reads_back, length-bytes_high_first}
use Rattle.rep_types.specs.declared.entry.Entry.{Entry}
use Rattle.rep_types.specs.declared.entry.EntryKind.{EntryKind}
use Rattle.rep_types.specs.declared.entry.EntryKind.TheVariants.{Opened, Closed, Write}
use Rattle.rep_types.specs.declared.memory.Memory.{Memory}
use Rattle.wal_entry.specs.declared.decode.Decoded.{Decoded}
use Rattle.wal_entry.specs.declared.decode.Decoded.TheVariants.{Frame, Bad, Short}
use Rattle.wal_entry.specs.Decoded.{Answers, BeginsWithFrame, IfFrame, IsFrame}
use Rattle.wal_entry.specs.Judging.{Place, Verdict, Whole, judge}
use Rattle.wal_entry.specs.Frame.{is_frame_length, frame_length, verdict}
use Rattle.wal_entry.specs.Framed.{IsTypedKind, HasFrame}
use Rattle.wal_entry.specs.Length.{rounded, body_length, frame_length_of}
use Rattle.wal_entry.specs.Spelling.{body_spelling, padding_spelling, spelling}
use Rattle.wal_entry.proofs.Cell.{both_true}
use Rattle.wal_entry.proofs.Fields.{after_spelling, length-body, AreFieldsAt, fields_take, fields_again}
use Rattle.wal_entry.proofs.Items.{and_then_whole, with_first, of_whole, Stands, item_takes, item_again}
use Rattle.wal_entry.proofs.Numbers.{size_4}
use Rattle.wal_entry.proofs.Places.{IsBytes, IsBytes-front, IsBytes-rest, Passes}

-- ---- the length

pub record IsLength (n : ℕ) : Type 0 where
  pub least : 32 ≤ n
  pub most : n ≤ 8224
  pub eighth : n % 8 ≡ 0

length_is : (n : ℕ) → is_frame_length n ≡ true → IsLength n
length_is n h =
    let parts = both_true (is_in_range 32 8224 n) (eqb (n % 8) 0) h in
    let range = parts.0 in
    record { least = grind (arith, nat_tests, range); most = grind (arith, nat_tests, range); eighth = eqb-true (n % 8) 0 parts.1 }

is_length : (n : ℕ) → IsLength n → is_frame_length n ≡ true
is_length n h =
    let range : is_in_range 32 8224 n ≡ true = grind (arith, nat_tests, h.least, h.most) in
    rw (range, h.eighth) refl

pub record IsLengthAt (p : Place) (n : ℕ) (q : Place) : Type 0 where
  pub passes : Passes p (big_bytes 4 n) q
  pub is : IsLength n

pub length_range : (p q : Place) (n : ℕ) → judge frame_length p ≡ Whole n q → IsLength n
unfolding frame_length
length_range p q n h =
    let a = and_then_whole _ _ n q h in
    let b = item_takes 1 4 (λ b. is_frame_length (big_number 4 b)) p a.1 a.0 a.2 in
    of_whole (λ n q. IsLength n) (big_number 4 a.0) n a.1 q a.3 (length_is (big_number 4 a.0) b.1)

pub length_takes : (p q : Place) (n : ℕ) → IsBytes p.rest → judge frame_length p ≡ Whole n q → IsLengthAt p n q
unfolding frame_length
length_takes p q n fits h =
    let a = and_then_whole _ _ n q h in
    let b = item_takes 1 4 (λ b. is_frame_length (big_number 4 b)) p a.1 a.0 a.2 in
    let bytes : big_bytes 4 (big_number 4 a.0) ≡ a.0 = size_4.back a.0 b.0.long (IsBytes-front a.0 a.1.rest (rw b.0.passes.parts at fits)) in
    of_whole (λ n q. IsLengthAt p n q) (big_number 4 a.0) n a.1 q a.3 (record { passes = rw bytes b.0.passes; is = length_is (big_number 4 a.0) b.1 })

fits_4 : (n : ℕ) → n ≤ 8224 → n < 256 ^ 4
fits_4 n h = omega arith

length_again : (p q : Place) (n : ℕ) → IsLengthAt p n q → q.at ≤ q.end → judge frame_length p ≡ Whole n q
unfolding frame_length
length_again p q n h within =
    let value : big_number 4 (big_bytes 4 n) ≡ n = ap (big_number 4) (sym (append-nil (big_bytes 4 n))) ∙ big_number-reads_back 4 n [] (fits_4 n h.is.most) in
    let stands : Stands p 4 (big_bytes 4 n) q = record { passes = h.passes; long = length-bytes_high_first 4 n; within = within } in
    let whole = item_again 1 4 (λ b. is_frame_length (big_number 4 b)) p q (big_bytes 4 n) stands (rw value (is_length n h.is)) in
    rw (whole, value) refl

-- ---- the whole

-- an entry that the bytes begin with, and what follows
pub record Begins (bytes : List ℕ) (e : Entry) (q : Place) : Type 0 where
  pub has : HasFrame e
  pub parts : bytes ≡ spelling e ++ q.rest
  pub at : q.at ≡ frame_length_of e

begins_of : (bytes : List ℕ) (m q : Place) (e : Entry) (n : ℕ) → bytes ≡ big_bytes 4 n ++ m.rest → AreFieldsAt (record m { end = n }) e q → Begins bytes e q
unfolding spelling
begins_of bytes m q e n first h =
    let whole : bytes ≡ big_bytes 4 n ++ after_spelling e ++ q.rest = first ∙ ap (λ (rest : List ℕ). big_bytes 4 n ++ rest) h.passes.parts ∙ sym (append_assoc (big_bytes 4 n) (after_spelling e) q.rest) in
    record {
      has = h.has;
      parts = subst (λ (k : ℕ). bytes ≡ big_bytes 4 k ++ after_spelling e ++ q.rest) h.length_is whole;
      at = h.last ∙ h.passes.end ∙ h.length_is;
    }

pub verdict_takes : (bytes : List ℕ) (e : Entry) (q : Place) → IsBytes bytes → verdict bytes ≡ Whole e q → Begins bytes e q
unfolding verdict
verdict_takes bytes e q fits h =
    with_first _ _ e q h (λ n m first second.
    let length = length_takes (record { at = 0; end = 8224; rest = bytes }) m n fits first in
    let fits_m = IsBytes-rest (big_bytes 4 n) m.rest (rw length.passes.parts at fits) in
    begins_of bytes m q e n length.passes.parts (fields_take (record m { end = n }) q e fits_m length.passes.at length.is.most length.is.eighth second))

-- ---- and back

body_most : (kind : EntryKind) → IsTypedKind kind → body_length kind ≤ 8192
body_most Opened typed = omega arith
body_most Closed typed = omega arith
body_most (Write e) typed = typed.whole.short

frame_length_is : (e : Entry) → HasFrame e → IsLength (frame_length_of e)
frame_length_is e has =
    let most = body_most e.kind has.typed.kind in
    record { least = omega arith; most = omega (arith, most); eighth = omega arith }

length-after : (e : Entry) → 4 + length (after_spelling e) ≡ frame_length_of e
length-after e =
    omega (arith, length-append (body_spelling e.kind) (padding_spelling e.kind), length-body e.kind, length-replicate {A = ℕ} (rounded (body_length e.kind) - body_length e.kind) 0)

pub length-spelling : (e : Entry) → length (spelling e) ≡ frame_length_of e
unfolding spelling
length-spelling e = omega (arith, length-after e)

-- where a spelling ends
abbrev pub after_frame : Entry → List ℕ → Place
after_frame e rest = record { at = frame_length_of e; end = frame_length_of e; rest = rest }

pub verdict_again : (e : Entry) (rest : List ℕ) → HasFrame e → verdict (spelling e ++ rest) ≡ Whole e (after_frame e rest)
unfolding verdict spelling
verdict_again e rest has =
    let size = frame_length_of e in
    let p : Place = record { at = 0; end = 8224; rest = spelling e ++ rest } in
    let m : Place = record { at = 4; end = 8224; rest = after_spelling e ++ rest } in
    let passes : Passes p (big_bytes 4 size) m = record { parts = refl; at = refl; end = refl } in
    let first = length_again p m size (record { passes = passes; is = frame_length_is e has }) (lit≤ tt) in
    let fields : Passes (record m { end = size }) (after_spelling e) (after_frame e rest) = record { parts = refl; at = sym (length-after e); end = refl } in
    rw first (fields_again (record m { end = size }) (after_frame e rest) e has refl refl fields refl)

-- no spelling begins another
pub spellings_apart : (e f : Entry) (x y : List ℕ) → HasFrame e → HasFrame f → spelling e ++ x ≡ spelling f ++ y → (e ≡ f) × (x ≡ y)
spellings_apart e f x y he hf same =
    let both : ◌≡◌ {A = Verdict Entry} (Whole e (after_frame e x)) (Whole f (after_frame f y)) = sym (verdict_again e x he) ∙ ap verdict same ∙ verdict_again f y hf in
    let place : after_frame e x ≡ after_frame f y = cc in
    (cc, ap (λ (p : Place). p.rest) place)

-- ---- the decoder's answers

begins_with : (bytes : List ℕ) (e : Entry) (q : Place) (size : ℕ) → Begins bytes e q → q.at ≡ size → BeginsWithFrame bytes e size
begins_with bytes e q size h at =
    let long : length (spelling e) ≡ size = length-spelling e ∙ sym h.at ∙ at in
    let rest : drop size bytes ≡ q.rest = ap (drop size) h.parts ∙ drop_at (spelling e) q.rest size long in
    record { framed = h.has; size_is = sym at ∙ h.at; begins = h.parts ∙ ap (λ (r : List ℕ). spelling e ++ r) (sym rest) }

pub whole_begins : (bytes : List ℕ) (e : Entry) (q : Place) → IsBytes bytes → verdict bytes ≡ Whole e q → BeginsWithFrame bytes e q.at
whole_begins bytes e q fits h = begins_with bytes e q q.at (verdict_takes bytes e q fits h) refl

pub frame_begins : (bytes : List ℕ) (d : Decoded) → IsBytes bytes → IsFrame d (verdict bytes) → IfFrame (Ok d) (BeginsWithFrame bytes)
frame_begins bytes (Frame e size) fits h = begins_with bytes e h.0 size (verdict_takes bytes e h.0 fits h.1) h.2
frame_begins bytes (Bad at rule) fits h = absurd h
frame_begins bytes Short fits h = absurd h

answer_is : (r : Result Decoded Memory) (e : Entry) (q : Place) → Answers r (Whole e q) → IfOk r (λ decoded. decoded ≡ Frame e q.at)
answer_is (Ok (Frame f size)) e q h =
    let entry : f ≡ e = cc in
    let place : h.0 ≡ q = cc in
    let at : size ≡ q.at = sym h.2 ∙ ap (λ (p : Place). p.at) place in
    rw (entry, at) refl
answer_is (Ok (Bad at rule)) e q h = absurd (cc)
answer_is (Ok Short) e q h = absurd (cc (h.1))
answer_is (Err memory) e q h = tt

pub answer_again : (bytes : List ℕ) (r : Result Decoded Memory) (e : Entry) (rest : List ℕ) → Answers r (verdict bytes) → HasFrame e → bytes ≡ spelling e ++ rest
    → IfOk r (λ decoded. decoded ≡ Frame e (frame_length_of e))
answer_again bytes r e rest h has same =
    answer_is r e (after_frame e rest) (subst (λ v. Answers r v) (ap verdict same ∙ verdict_again e rest has) h)
