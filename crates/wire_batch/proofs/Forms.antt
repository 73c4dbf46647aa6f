-- The forms, both ways.
use Rattle.std.proofs.Common.{◌≡◌, ℕ, zero, suc, ◌+◌, ◌≤◌, Bool, true, false, ltb, not, List, [], ◌∷◌, ◌++◌, length, drop, refl, sym, ap, ◌∙◌, append_assoc, arith}
use Rattle.std.specs.Prelude.{◌||◌, All, sum_by}
use Rattle.std.proofs.lemmas.Bool.{ltb-false, le-ltb}
use Rattle.std.proofs.lemmas.List.{length-append, append-nil, drop_at}
use Rattle.std.proofs.lemmas.List.Elements.{All-nil, All-cons, All-head, All-tail}
use Rattle.std.proofs.lemmas.List.Sums.{sum_by-cons}
use Rattle.rep_types.specs.declared.entry.Entry.{Entry}
use Rattle.wal_entry.specs.Frame.{verdict}
use Rattle.wal_entry.specs.Framed.{HasFrame}
use Rattle.wal_entry.specs.Judging as frame
use Rattle.wal_entry.specs.Length.{frame_length_of}
use Rattle.wal_entry.specs.Spelling.{spelling}
use Rattle.wal_entry.proofs.Places.{IsBytes, IsBytes-rest}
use Rattle.wal_entry.proofs.Verdicts.{verdict_again, whole_begins, length-spelling}
use Rattle.wire_batch.specs.Grammar.{is_form, form_of, form, forms}
use Rattle.wire_batch.specs.Reading.{Place, Whole, moved}
use Rattle.wire_batch.specs.Spelling.{forms_spelling}
use Rattle.wire_batch.proofs.Reading.{with_first, not_broken, of_whole}

-- a form that has a frame
pub record HasForm (e : Entry) : Type 0 where
  pub has : HasFrame e
  pub form : is_form e ≡ true

-- ---- one form

-- what a whole form says of the frame's verdict
pub record IsWholeForm (end : ℕ) (p : Place) (v : frame.Verdict Entry) (e : Entry) (q : Place) : Type 0 where
  pub after : frame.Place
  pub verdict : v ≡ frame.Whole e after
  pub form : is_form e ≡ true
  pub within : p.at + after.at ≤ end
  pub next : q ≡ moved after.at p

neither : (a b : Bool) → (a || not b) ≡ false → (a ≡ false) × (b ≡ true)
neither true b h = absurd (cc)
neither false true h = (refl, refl)
neither false false h = absurd (cc)

whole_form : (end : ℕ) (p : Place) (v : frame.Verdict Entry) (e : Entry) (q : Place) → form_of end p v ≡ Whole e q → IsWholeForm end p v e q
whole_form end p (frame.Broken at field) e q h = absurd (cc)
whole_form end p (frame.Cut until) e q h = absurd (cc)
whole_form end p (frame.Whole f after) e q h =
    let a = not_broken _ p.at 8 _ e q h in
    let b = neither (ltb end (p.at + after.at)) (is_form f) a.0 in
    of_whole (λ e q. IsWholeForm end p (frame.Whole f after) e q) f e (moved after.at p) q a.1 (record {
      after = after;
      verdict = refl;
      form = b.1;
      within = ltb-false _ _ b.0;
      next = refl;
    })

pub record IsFormAt (p : Place) (e : Entry) (q : Place) : Type 0 where
  pub has : HasForm e
  pub parts : p.rest ≡ spelling e ++ q.rest
  pub at : q.at ≡ p.at + frame_length_of e

form_takes : (end : ℕ) (p q : Place) (e : Entry) → IsBytes p.rest → form end p ≡ Whole e q → IsFormAt p e q
unfolding form
form_takes end p q e fits h =
    let a = whole_form end p (verdict p.rest) e q h in
    let b = whole_begins p.rest e a.after fits a.verdict in
    rw a.next (record {
      has = record { has = b.framed; form = a.form };
      parts = b.begins;
      at = ap (λ (n : ℕ). p.at + n) b.size_is;
    })

form_again : (end at : ℕ) (e : Entry) (rest : List ℕ) → HasForm e → at + frame_length_of e ≤ end
    → form end (record { at = at; rest = spelling e ++ rest }) ≡ Whole e (record { at = at + frame_length_of e; rest = rest })
unfolding form
form_again end at e rest h within =
    let room : ltb end (at + frame_length_of e) ≡ false = le-ltb _ _ within in
    let back : drop (frame_length_of e) (spelling e ++ rest) ≡ rest = drop_at (spelling e) rest (frame_length_of e) (length-spelling e) in
    rw (verdict_again e rest h.has, room, h.form, back) refl

-- ---- all of them

pub record AreForms (p : Place) (earlier all : List Entry) (count : ℕ) (q : Place) : Type 0 where
  pub more : List Entry
  pub whole : all ≡ earlier ++ more
  pub have : All HasForm more
  pub many : length more ≡ count
  pub parts : p.rest ≡ forms_spelling more ++ q.rest
  pub at : q.at ≡ p.at + sum_by frame_length_of more

one_more : (p m q : Place) (earlier all : List Entry) (count : ℕ) (e : Entry) → IsFormAt p e m → AreForms m (earlier ++ e ∷ []) all count q → AreForms p earlier all (suc count) q
one_more p m q earlier all count e first others = record {
  more = e ∷ others.more;
  whole = others.whole ∙ append_assoc earlier (e ∷ []) others.more;
  have = All-cons HasForm e others.more first.has others.have;
  many = ap suc others.many;
  parts = first.parts ∙ ap (λ (t : List ℕ). spelling e ++ t) others.parts ∙ sym (append_assoc (spelling e) (forms_spelling others.more) q.rest);
  at = omega (arith, first.at, others.at, sum_by-cons frame_length_of e others.more);
}

pub forms_take : (end count : ℕ) (earlier all : List Entry) (p q : Place) → IsBytes p.rest → forms end count earlier p ≡ Whole all q → AreForms p earlier all count q
unfolding forms
forms_take end zero earlier all p q fits h =
    of_whole (λ all q. AreForms p earlier all 0 q) earlier all p q h (record {
      more = [];
      whole = sym (append-nil earlier);
      have = All-nil HasForm;
      many = refl;
      parts = refl;
      at = omega arith;
    })
forms_take end (suc count) earlier all p q fits h =
    with_first _ _ all q h (λ e m first others.
    let here = form_takes end p m e fits first in
    one_more p m q earlier all count e here (forms_take end count (earlier ++ e ∷ []) all m q (IsBytes-rest (spelling e) m.rest (rw here.parts at fits)) others))

pub forms_again : (end at : ℕ) (earlier more : List Entry) (rest : List ℕ) → All HasForm more → at + sum_by frame_length_of more ≤ end
    → forms end (length more) earlier (record { at = at; rest = forms_spelling more ++ rest }) ≡ Whole (earlier ++ more) (record { at = at + sum_by frame_length_of more; rest = rest })
unfolding forms
forms_again end at earlier [] rest have within =
    let same : at ≡ at + 0 = omega arith in
    rw (append-nil earlier, ← same) refl
forms_again end at earlier (e ∷ more) rest have within =
    let sum = sum_by-cons frame_length_of e more in
    let first = form_again end at e (forms_spelling more ++ rest) (All-head HasForm e more have) (omega (arith, within, sum)) in
    let others = forms_again end (at + frame_length_of e) (earlier ++ e ∷ []) more rest (All-tail HasForm e more have) (omega (arith, within, sum)) in
    let total : at + sum_by frame_length_of (e ∷ more) ≡ at + frame_length_of e + sum_by frame_length_of more = omega (arith, sum) in
    rw (append_assoc (spelling e) (forms_spelling more) rest, first, others, append_assoc earlier (e ∷ []) more, total) refl

pub length-forms : (forms : List Entry) → length (forms_spelling forms) ≡ sum_by frame_length_of forms
length-forms [] = refl
length-forms (e ∷ forms) =
    omega (arith, length-append (spelling e) (forms_spelling forms), length-spelling e, length-forms forms, sum_by-cons frame_length_of e forms)
