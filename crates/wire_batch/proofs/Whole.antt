-- The verdict on a spelling is its batch, and bytes with that verdict are the spelling.
use Rattle.std.proofs.Common.{◌≡◌, ℕ, ◌+◌, true, eqb, List, [], ◌∷◌, ◌++◌, length, refl, sym, ap, subst, ◌∙◌, arith}
use Rattle.std.specs.Prelude.{All, IfOk, Result, Ok, Err, sum_by}
use Rattle.std.proofs.lemmas.Bool.{eqb-true}
use Rattle.std.proofs.lemmas.List.{length-append, append-nil}
use Rattle.rep_types.specs.declared.entry.Entry.{Entry}
use Rattle.wal_entry.specs.Length.{frame_length_of}
use Rattle.wal_entry.proofs.Cell.{both_true}
use Rattle.wal_entry.proofs.Places.{IsBytes}
use Rattle.wire_batch.specs.Answers.{Answers, IsUnlessMemory, IsSpelled}
use Rattle.wire_batch.specs.Batches.{batch_length, HasBytes}
use Rattle.wire_batch.specs.Grammar.{heading, forms, nothing_more, batch, batch_of, verdict_of}
use Rattle.wire_batch.specs.Reading.{Place, Verdict, Whole}
use Rattle.wire_batch.specs.Spelling.{heading_of, heading_spelling, forms_spelling, batch_spelling}
use Rattle.wire_batch.specs.declared.batch.Batch.{Batch}
use Rattle.wire_batch.specs.declared.batch.BatchError.{BatchError}
use Rattle.wire_batch.specs.declared.batch.BatchError.TheVariants.{BadBatch, Memory}
use Rattle.wire_batch.specs.declared.heading.Heading.{Heading}
use Rattle.wire_batch.proofs.Forms.{HasForm, AreForms, forms_take, forms_again, length-forms}
use Rattle.wire_batch.proofs.Headings.{IsHeading, IsHeadingAt, heading_takes, heading_again}
use Rattle.wire_batch.proofs.Reading.{with_first, allowed_whole, of_whole}

-- ---- from the bytes

is_nothing : (bytes : List ℕ) → eqb (length bytes) 0 ≡ true → bytes ≡ []
is_nothing [] h = refl
is_nothing (b ∷ bytes) h = absurd (omega (arith, eqb-true (length (b ∷ bytes)) 0 h))

ends_here : (end : ℕ) (p q : Place) → nothing_more end p ≡ Whole tt q → (p.at ≡ end) × (p.rest ≡ [])
unfolding nothing_more
ends_here end p q h =
    let a = allowed_whole _ p.at 8 tt tt p q h in
    let b = both_true (eqb p.at end) (eqb (length p.rest) 0) a.0 in
    (eqb-true p.at end b.0, is_nothing p.rest b.1)

same_heading : (h : Heading) (all : List Entry) → h.length ≡ 16 + sum_by frame_length_of all → h.count ≡ length all → heading_of (batch_of h all) ≡ h
same_heading h all long many =
    ap (λ (n : ℕ). record h { length = n; count = length all }) (sym long) ∙ ap (λ (n : ℕ). record h { count = n }) (sym many)

have_bytes : (h : Heading) (all : List Entry) → IsHeading h → All HasForm all → h.length ≡ 16 + sum_by frame_length_of all → h.count ≡ length all → HasBytes (batch_of h all)
have_bytes h all is have long many = record {
  typed = record {
    peer_least = is.peer_least;
    peer_most = is.peer_most;
    server_least = is.server_least;
    server_most = is.server_most;
    flight_most = omega (arith, is.flight_most);
    entries = λ k d lt. (have k d lt).has.typed;
  };
  sendable = record {
    flight = is.flight_least;
    forms = λ k d lt. record { framed = (have k d lt).has.framed; form = (have k d lt).form };
    few = omega (arith, many, is.count_most);
    short = omega (arith, long, is.length_most);
  };
}

spelled_of : (bytes : List ℕ) (h : Heading) (all : List Entry) (m w q : Place) → IsHeadingAt (record { at = 0; rest = bytes }) h m → AreForms m [] all h.count w → nothing_more h.length w ≡ Whole tt q → IsSpelled bytes (batch_of h all)
unfolding batch_spelling
spelled_of bytes h all m w q head rest last =
    let end = ends_here h.length w q last in
    let same : all ≡ rest.more = rest.whole in
    let long : h.length ≡ 16 + sum_by frame_length_of all = rw same (omega (arith, head.at, rest.at, end.0)) in
    let many : h.count ≡ length all = rw same (sym rest.many) in
    let tail : m.rest ≡ forms_spelling all = rw same (rest.parts ∙ ap (λ (t : List ℕ). forms_spelling rest.more ++ t) end.1 ∙ append-nil (forms_spelling rest.more)) in
    record {
      has = have_bytes h all head.is (rw same rest.have) long many;
      bytes_are = head.parts ∙ ap (λ (t : List ℕ). heading_spelling h ++ t) tail ∙ ap (λ (x : Heading). heading_spelling x ++ forms_spelling all) (sym (same_heading h all long many));
    }

pub batch_takes : (bytes : List ℕ) (b : Batch) (q : Place) → IsBytes bytes → verdict_of bytes ≡ Whole b q → IsSpelled bytes b
unfolding batch
batch_takes bytes b q fits e =
    with_first _ _ b q e (λ h m first others.
    let head = heading_takes (record { at = 0; rest = bytes }) m h fits first in
    with_first _ _ b q others (λ all w second last.
    let rest = forms_take h.length h.count [] all m w head.fits second in
    with_first _ _ b q last (λ x n third done.
    of_whole (λ b q. IsSpelled bytes b) (batch_of h all) b n q done (spelled_of bytes h all m w n head rest third))))

-- the steps one after the other
pub steps_whole : (bytes : List ℕ) (h : Heading) (all : List Entry) (m w q : Place) → heading (record { at = 0; rest = bytes }) ≡ Whole h m → forms h.length h.count [] m ≡ Whole all w → nothing_more h.length w ≡ Whole tt q
    → verdict_of bytes ≡ Whole (batch_of h all) q
unfolding batch
steps_whole bytes h all m w q first second third = rw (first, second, third) refl

pub answer_spelled : (bytes : List ℕ) (r : Result Batch BatchError) → IsBytes bytes → Answers r (verdict_of bytes) → IfOk r (IsSpelled bytes)
answer_spelled bytes (Ok b) fits h = batch_takes bytes b h.0 fits h.1
answer_spelled bytes (Err e) fits h = tt

-- ---- and back

is_heading : (b : Batch) → HasBytes b → IsHeading (heading_of b)
is_heading b h =
    let short = h.sendable.short in
    let most = h.typed.flight_most in
    record {
      length_least = omega arith;
      length_most = short;
      peer_least = h.typed.peer_least;
      peer_most = h.typed.peer_most;
      server_least = h.typed.server_least;
      server_most = h.typed.server_most;
      flight_least = h.sendable.flight;
      flight_most = omega (arith, most);
      count_most = h.sendable.few;
    }

have_forms : (b : Batch) → HasBytes b → All HasForm b.forms
have_forms b h = λ k d lt. record {
  has = record { typed = h.typed.entries k d lt; framed = (h.sendable.forms k d lt).framed };
  form = (h.sendable.forms k d lt).form;
}

-- where a spelling ends
abbrev pub after_batch : Batch → Place
after_batch b = record { at = batch_length b; rest = [] }

nothing_again : (end : ℕ) → nothing_more end (record { at = end; rest = [] }) ≡ Whole tt (record { at = end; rest = [] })
unfolding nothing_more
nothing_again end = let same : eqb end end ≡ true = grind arith in rw same refl

pub batch_again : (b : Batch) → HasBytes b → verdict_of (batch_spelling b) ≡ Whole b (after_batch b)
unfolding batch batch_spelling
batch_again b h =
    let rest = forms_spelling b.forms in
    let first = heading_again (heading_of b) rest (is_heading b h) in
    let second = forms_again (batch_length b) 16 [] b.forms [] (have_forms b h) (omega arith) in
    let whole : forms (batch_length b) (length b.forms) [] (record { at = 16; rest = rest }) ≡ Whole b.forms (after_batch b) = rw (append-nil rest) at second in
    rw (first, whole, nothing_again (batch_length b)) refl

pub length-batch : (b : Batch) → length (batch_spelling b) ≡ batch_length b
unfolding batch_spelling
length-batch b = omega (arith, length-append (heading_spelling (heading_of b)) (forms_spelling b.forms), length-forms b.forms)

pub spelled_again : (bytes : List ℕ) (b : Batch) → IsSpelled bytes b → verdict_of bytes ≡ Whole b (after_batch b)
spelled_again bytes b h = ap verdict_of h.bytes_are ∙ batch_again b h.has

pub batches_apart : (b c : Batch) → HasBytes b → HasBytes c → batch_spelling b ≡ batch_spelling c → b ≡ c
batches_apart b c hb hc same =
    let both : ◌≡◌ {A = Verdict Batch} (Whole b (after_batch b)) (Whole c (after_batch c)) = sym (batch_again b hb) ∙ ap verdict_of same ∙ batch_again c hc in
    cc

-- ---- the decoder's answers

answer_is : (r : Result Batch BatchError) (b : Batch) (q : Place) → Answers r (Whole b q) → IsUnlessMemory r b
answer_is (Ok c) b q h = let same = h.1 in cc
answer_is (Err (BadBatch at rule)) b q h = absurd (cc)
answer_is (Err Memory) b q h = tt

pub answer_again : (bytes : List ℕ) (r : Result Batch BatchError) (b : Batch) → Answers r (verdict_of bytes) → IsSpelled bytes b → IsUnlessMemory r b
answer_again bytes r b h spelled = answer_is r b (after_batch b) (subst (λ v. Answers r v) (spelled_again bytes b spelled) h)
