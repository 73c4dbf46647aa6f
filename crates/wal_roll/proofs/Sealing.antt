-- What is kept of the frames of a list.
use Rattle.std.proofs.Common.{◌≡◌, ℕ, zero, suc, ◌+◌, ◌-◌, ◌<◌, ◌≤◌, nat_le, Bool, true, false, List, [], ◌∷◌, ◌++◌, length, take, drop, map, sum, Option, Some, refl, ap, sym, ◌∙◌, subst, arith, append_assoc, length-append, take-append-drop, leb-true, leb-false, ◌⊎◌, inl, inr}
use Rattle.std.specs.List.{All}
use Rattle.std.proofs.lemmas.List.Elements.{All-head, All-tail}
use Rattle.std.proofs.lemmas.List.Sums.{sum_by-cons}
use Rattle.std.proofs.lemmas.Bool.{cond-true, cond-false}
use Rattle.std.proofs.lemmas.List.{take_all, take-append-le, length-take-le, take-map}
use Rattle.std.proofs.Math.Seq.{take-append-add}
use Rattle.rep_types.specs.declared.entry.Entry.{Entry}
use Rattle.wal_entry.specs.Spelling.{spelling}
use Rattle.rep_vault.specs.Contents.{File, Contents, with_file}
use Rattle.rep_vault.proofs.Frames.{file_here}
use Rattle.rep_vault.specs.Calls.{cut_at}
use Rattle.wal_roll.specs.Log.{Log, LogValue, Tail, Holds, IsWriter, wal, log_name, frames, writer_of, frame_size}
use Rattle.wal_roll.specs.Kept.{whole, IsPart, IsSealed, kept_log}
use Rattle.wal_roll.proofs.Logs.{frames-append, sizes, opened}

-- w of these entries stand whole in the first n bytes of their frames, and then a part of the next
pub record Keeps (n : ℕ) (es : List Entry) (w : ℕ) : Type 0 where
  pub few : w ≤ length es
  pub part : List ℕ
  pub bytes : take n (frames es) ≡ frames (take w es) ++ part
  pub cut : IsPart part (drop w es)

bool_cases : (b : Bool) → (b ≡ true) ⊎ (b ≡ false)
bool_cases true = inl refl
bool_cases false = inr refl

take_nil : (n : ℕ) → take n (frames []) ≡ []
take_nil zero = refl
take_nil (suc n) = refl

keeps_more : (n w : ℕ) (e : Entry) (es : List Entry) → frame_size e ≤ n → Keeps (n - frame_size e) es w → Keeps n (e ∷ es) (suc w)
keeps_more n w e es le k =
    let split : n ≡ length (spelling e) + (n - frame_size e) = omega (arith, le) in
    record {
      few = omega (arith, k.few);
      part = k.part;
      bytes = ap (λ j. take j (spelling e ++ frames es)) split ∙ (take-append-add (spelling e) (frames es) (n - frame_size e) ∙ (ap (λ l. spelling e ++ l) k.bytes ∙ sym (append_assoc (spelling e) (frames (take w es)) k.part)));
      cut = k.cut;
    }

keeps_less : (n : ℕ) (e : Entry) (es : List Entry) → n < frame_size e → Keeps n (e ∷ es) 0
keeps_less n e es less = record {
  few = omega arith;
  part = take n (spelling e);
  bytes = take-append-le n (spelling e) (frames es) (omega (arith, less));
  cut = (n, less, refl);
}

-- the first n bytes of frames are whole frames and a part of the next
pub keeps : (n : ℕ) (es : List Entry) → Keeps n es (whole n (map frame_size es))
keeps n [] = record { few = omega arith; part = []; bytes = take_nil n; cut = refl }
keeps n (e ∷ es) = elim (bool_cases (nat_le (frame_size e) n)) [
  | inl b ↦
      let more : whole n (map frame_size (e ∷ es)) ≡ suc (whole (n - frame_size e) (map frame_size es)) = cond-true _ _ _ b ∙ (let one : 1 + whole (n - frame_size e) (map frame_size es) ≡ suc (whole (n - frame_size e) (map frame_size es)) = omega arith in one) in
      subst (Keeps n (e ∷ es)) (sym more) (keeps_more n (whole (n - frame_size e) (map frame_size es)) e es (leb-true _ _ b) (keeps (n - frame_size e) es))
  | inr b ↦
      let none : whole n (map frame_size (e ∷ es)) ≡ 0 = cond-false _ _ _ b in
      subst (Keeps n (e ∷ es)) (sym none) (keeps_less n e es (leb-false _ _ b))
]

-- what follows the commits is the beginning of the pending frames
tail_begins : (b : Bool) (rest : List ℕ) (pending : List Entry) → Tail b rest pending → (j : ℕ) × (rest ≡ take j (frames pending))
tail_begins false rest pending is = (length (frames pending), is ∙ sym (take_all (length (frames pending)) (frames pending) (omega arith)))
tail_begins true rest pending torn = (
  length (frames torn.front) + torn.kept,
  torn.bytes ∙ (sym (take-append-add (frames torn.front) (frames torn.back) torn.kept) ∙ ap (take (length (frames torn.front) + torn.kept)) (sym (ap frames torn.split ∙ frames-append torn.front torn.back))),
)

take_twice : (k j : ℕ) (l : List ℕ) → k ≤ length (take j l) → take k (take j l) ≡ take k l
take_twice k j l le = sym (take-append-le k (take j l) (drop j l) le) ∙ ap (take k) (take-append-drop j l)

pub seal_keeps : (log : Log) (x : File) (o : Option File) (len : ℕ) → Holds x log → x.synced ≤ len → len ≤ length x.bytes → o ≡ Some (cut_at len x) → IsSealed o log (whole (len - x.synced) (map frame_size log.pending))
seal_keeps log x o len holds low high is =
    let k = len - x.synced in
    let c = frames log.committed in
    let first = tail_begins log.broken holds.rest log.pending holds.tail in
    let long : length x.bytes ≡ length c + length holds.rest = ap length holds.bytes ∙ length-append c holds.rest in
    let split : len ≡ length c + k = omega (arith, low, holds.synced) in
    let within : k ≤ length (take first.0 (frames log.pending)) = omega (arith, high, long, split, ap length first.1) in
    let kept = keeps k log.pending in
    let tail : take k holds.rest ≡ frames (take (whole k (map frame_size log.pending)) log.pending) ++ kept.part = ap (take k) first.1 ∙ (take_twice k first.0 (frames log.pending) within ∙ kept.bytes) in
    record {
      file = cut_at len x;
      there = is;
      sealed = refl;
      few = kept.few;
      part = kept.part;
      bytes = ap (take len) holds.bytes ∙ (ap (λ j. take j (c ++ holds.rest)) split ∙ (take-append-add c holds.rest k ∙ (ap (λ l. c ++ l) tail ∙ (sym (append_assoc c (frames (take (whole k (map frame_size log.pending)) log.pending)) kept.part) ∙ ap (λ l. l ++ kept.part) (sym (frames-append log.committed (take (whole k (map frame_size log.pending)) log.pending)))))));
      cut = kept.cut;
    }

pub sealed_at : (old new : Contents) (v w : LogValue) (log : Log) (n : List ℕ) (x : File) (len count : ℕ) (lengths : List ℕ) → v ≡ w → n ≡ log_name v.server v.number → old.files wal n ≡ Some x → x.synced ≤ len → len ≤ length x.bytes → new ≡ with_file wal n (cut_at len x) old
    → lengths ≡ v.lengths → count ≡ whole (len - v.synced) lengths → IsWriter old w log → IsSealed (new.files wal (log_name log.server log.number)) log count
sealed_at old new v w log n x len count lengths is named there low high made same_lengths counted writer =
    let same : v ≡ writer_of log = is ∙ writer.same in
    let holds : Holds x log = opened old w log writer n x (named ∙ ap (λ (u : LogValue). log_name u.server u.number) is) there in
    let name : n ≡ log_name log.server log.number = named ∙ ap (λ (u : LogValue). log_name u.server u.number) same in
    let file : new.files wal (log_name log.server log.number) ≡ Some (cut_at len x) = ap (λ c. c.files wal (log_name log.server log.number)) made ∙ (ap (λ m. (with_file wal n (cut_at len x) old).files wal m) (sym name) ∙ file_here wal n (Some (cut_at len x)) old) in
    let total : count ≡ whole (len - x.synced) (map frame_size log.pending) = counted ∙ (ap (whole (len - v.synced)) (same_lengths ∙ ap (λ (u : LogValue). u.lengths) same) ∙ ap (λ j. whole (len - j) (map frame_size log.pending)) (ap (λ (u : LogValue). u.synced) same ∙ sym holds.synced)) in
    subst (IsSealed (new.files wal (log_name log.server log.number)) log) (sym total) (seal_keeps log x (new.files wal (log_name log.server log.number)) len holds low high file)

-- lengths that aren't zero
pub length_first : (n : ℕ) (ls : List ℕ) → All (λ l. 1 ≤ l) ls → n ≤ length ls → n ≤ sum (take n ls)
length_first zero ls each few = omega arith
length_first (suc n) [] each few = absurd (omega (arith, few))
length_first (suc n) (l ∷ ls) each few =
    let more : sum (take (suc n) (l ∷ ls)) ≡ l + sum (take n ls) = sum_by-cons (λ k. k) l (take n ls) in
    omega (arith, more, All-head (λ k. 1 ≤ k) l ls each, length_first n ls (All-tail (λ k. 1 ≤ k) l ls each) (omega (arith, few)))

-- the writer of a log that is sealed
pub kept_writer : (v w w' : LogValue) (log : Log) (n : ℕ) → v ≡ w → w ≡ writer_of log → n ≤ length log.pending → w' ≡ record v { committed = v.committed + n; synced = v.synced + sum (take n v.lengths); lengths = [] } → w' ≡ writer_of (kept_log n log)
kept_writer v w w' log n is same few made =
    let c = log.committed in
    let p = take n log.pending in
    let many : length c + n ≡ length (c ++ p) = ap (λ k. length c + k) (sym (length-take-le n log.pending few)) ∙ sym (length-append c p) in
    let sum_is : sum (take n (map frame_size log.pending)) ≡ length (frames p) = ap sum (take-map frame_size n log.pending) ∙ sizes p in
    let long : length (frames c) + sum (take n (map frame_size log.pending)) ≡ length (frames (c ++ p)) = ap (λ k. length (frames c) + k) sum_is ∙ (sym (length-append (frames c) (frames p)) ∙ ap length (sym (frames-append c p))) in
    made ∙ (ap (λ (u : LogValue). record u { committed = u.committed + n; synced = u.synced + sum (take n u.lengths); lengths = [] }) (is ∙ same) ∙ (λ i. record { server = log.server; number = log.number; committed = many i; synced = long i; lengths = []; broken = log.broken }))
