-- A batch with one more entry, and where it ends.
use Rattle.std.proofs.Common.{◌≡◌, ℕ, ◌+◌, ◌<◌, ◌≤◌, zero, suc, Bool, true, false, List, [], ◌∷◌, ◌++◌, length, take, sum_by, slice_get, Some, inl, inr, refl, ap, sym, ◌∙◌, subst, arith}
use Rattle.std.proofs.lemmas.Bool.{cases_lt, true≢false}
use Rattle.std.proofs.lemmas.List.{take-take, take_more}
use Rattle.std.proofs.lemmas.List.Sums.{sum_by_more, sum_by-take-le}
use Rattle.std.proofs.lemmas.Option.{none-some, same_Some, get_or_from_slice_get, slice_get_within}
use Rattle.rep_types.specs.declared.entry.Entry.{Entry}
use Rattle.serial_gate.specs.declared.gate.Admission.{Admission}
use Rattle.serial_gate.specs.declared.gate.Admission.TheVariants.{Go, Held}
use Rattle.wal_entry.specs.Length.{frame_length_of}
use Rattle.shipper.specs.Batches.{Gate, IsBatch, IsLongest, AnswersFirst, is_go}

-- the bytes of the frames of the first i
abbrev pub bytes : ℕ → List Entry → ℕ
bytes i es = sum_by frame_length_of (take i es)

pub bytes-more : (i : ℕ) (es : List Entry) (e : Entry) → i < length es → slice_get es i ≡ Some e → bytes (i + 1) es ≡ bytes i es + frame_length_of e
bytes-more i es e l g = sum_by_more frame_length_of es i e l ∙ ap (λ (x : Entry). bytes i es + frame_length_of x) (get_or_from_slice_get es i e e g)

-- more entries have no fewer bytes
bytes-grow : (i j : ℕ) (es : List Entry) → i ≤ j → bytes i es ≤ bytes j es
bytes-grow i j es l = subst (λ (xs : List Entry). sum_by frame_length_of xs ≤ bytes j es) (take-take i j es l) (sum_by-take-le frame_length_of (take j es) i)

pub none : (gate : Gate) (most : ℕ) (queue : List Entry) → IsBatch gate most queue 0
none gate most queue = record { within = omega arith; few = omega arith; short = omega arith; admitted = λ k e l g. absurd (omega arith) }

pub one-more : (gate : Gate) (most : ℕ) (queue : List Entry) (i room : ℕ) (e : Entry) → IsBatch gate most queue i → i < most → i < length queue → slice_get queue i ≡ Some e
    → room + bytes i queue ≡ 65536 → frame_length_of e ≤ room → gate (take i queue) e ≡ Go → IsBatch gate most queue (i + 1)
one-more gate most queue i room e batch few l g left fits goes = record {
  within = omega arith;
  few = omega arith;
  short = omega (arith, bytes-more i queue e l g);
  admitted = at;
}
  where
    here : (k : ℕ) (x : Entry) → i ≡ k → slice_get queue k ≡ Some x → gate (take k queue) x ≡ Go
    here k x same = subst (λ (j : ℕ). slice_get queue j ≡ Some x → gate (take j queue) x ≡ Go) same
        (λ h. subst (λ (y : Entry). gate (take i queue) y ≡ Go) (same_Some e x (sym g ∙ h)) goes)

    at : (k : ℕ) (x : Entry) → k < i + 1 → slice_get queue k ≡ Some x → gate (take k queue) x ≡ Go
    at k x m h = elim (cases_lt k i) [ inl below ↦ batch.admitted k x below h | inr above ↦ here k x (omega arith) h ]

-- no more entries are a batch
ends : (gate : Gate) (most : ℕ) (queue : List Entry) (i : ℕ) → IsBatch gate most queue i → ((m : ℕ) → i < m → IsBatch gate most queue m → ⊥) → IsLongest gate most queue i
ends gate most queue i batch ended = record {
  batch = batch;
  longest = λ m longer. elim (cases_lt i m) [ inl l ↦ absurd (ended m l longer) | inr h ↦ h ];
}

pub ends-with-queue : (gate : Gate) (most : ℕ) (queue : List Entry) (i : ℕ) → IsBatch gate most queue i → length queue ≤ i → IsLongest gate most queue i
ends-with-queue gate most queue i batch all = ends gate most queue i batch (λ m l longer. let w : m ≤ length queue = longer.within in omega arith)

pub ends-at-most : (gate : Gate) (most : ℕ) (queue : List Entry) (i : ℕ) → IsBatch gate most queue i → most ≤ i → IsLongest gate most queue i
ends-at-most gate most queue i batch all = ends gate most queue i batch (λ m l longer. let w : m ≤ most = longer.few in omega arith)

pub ends-full : (gate : Gate) (most : ℕ) (queue : List Entry) (i room : ℕ) (e : Entry) → IsBatch gate most queue i → i < length queue → slice_get queue i ≡ Some e
    → room + bytes i queue ≡ 65536 → room < frame_length_of e → IsLongest gate most queue i
ends-full gate most queue i room e batch l g left long =
    ends gate most queue i batch (λ m more longer.
    let short : bytes m queue ≤ 65536 = longer.short in
    let up : i + 1 ≤ m = omega arith in
    let grown : bytes (i + 1) queue ≤ bytes m queue = bytes-grow (i + 1) m queue up in
    let next : bytes (i + 1) queue ≡ bytes i queue + frame_length_of e = bytes-more i queue e l g in
    omega arith)

pub ends-held : (gate : Gate) (most : ℕ) (queue : List Entry) (i : ℕ) (e : Entry) → IsBatch gate most queue i → slice_get queue i ≡ Some e
    → (gate (take i queue) e ≡ Go → ⊥) → IsLongest gate most queue i
ends-held gate most queue i e batch g held = ends gate most queue i batch (λ m more longer. held (longer.admitted i e more g))

-- the first entry goes
pub first-goes : (gate : Gate) (queue : List Entry) (e : Entry) → slice_get queue 0 ≡ Some e → AnswersFirst gate Go queue → gate [] e ≡ Go
first-goes gate [] e g a = absurd a
first-goes gate (x ∷ xs) e g a = subst (λ (y : Entry). gate [] y ≡ Go) (same_Some x e g) a

pub answers-first : (gate : Gate) (answer : Admission) (queue : List Entry) (e : Entry) → slice_get queue 0 ≡ Some e → gate [] e ≡ answer → AnswersFirst gate answer queue
answers-first gate answer [] e g a = absurd (none-some e g)
answers-first gate answer (x ∷ xs) e g a = subst (λ (y : Entry). gate [] y ≡ answer) (sym (same_Some x e g)) a

-- where the first entry goes the batch has it: no frame is too long
pub some : (gate : Gate) (most : ℕ) (queue : List Entry) (i : ℕ) (e : Entry) → 1 ≤ most → IsLongest gate most queue i → slice_get queue i ≡ Some e → frame_length_of e ≤ 8224
    → AnswersFirst gate Go queue → 1 ≤ i
some gate most queue zero e least longest g fits a =
    longest.longest 1 (one-more gate most queue 0 65536 e (none gate most queue) (omega arith) (slice_get_within queue 0 e g) g (omega arith) (omega arith) (first-goes gate queue e g a))
some gate most queue (suc i) e least longest g fits a = omega arith

pub next-of : (i : ℕ) (es : List Entry) (e : Entry) → i < length es → slice_get es i ≡ Some e → take (i + 1) es ≡ take i es ++ e ∷ []
next-of i es e l g = take_more es i e l ∙ ap (λ (x : Entry). take i es ++ x ∷ []) (get_or_from_slice_get es i e e g)

is-go : (a : Admission) → true ≡ is_go a → a ≡ Go
is-go Go h = refl
is-go (Held need) h = absurd (true≢false h)

-- what the test of an answer says of the same answer
pub goes : (a b : Admission) (r : Bool) → a ≡ b → r ≡ is_go a → r ≡ true → b ≡ Go
goes a b r same is h = sym same ∙ is-go a (sym h ∙ is)

pub held : (a b : Admission) (r : Bool) → a ≡ b → r ≡ is_go a → r ≡ false → b ≡ Go → ⊥
held a b r same is h go = true≢false (ap is_go (sym (same ∙ go)) ∙ (sym is ∙ h))
