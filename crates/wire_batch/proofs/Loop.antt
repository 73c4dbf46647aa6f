-- Reading forms one after the other, as a loop does.
use Rattle.std.proofs.Common.{◌≡◌, ℕ, suc, ◌+◌, ◌-◌, ◌<◌, ◌≤◌, List, [], ◌∷◌, ◌++◌, refl, arith}
use Rattle.rep_types.specs.declared.entry.Entry.{Entry}
use Rattle.wire_batch.specs.Answers.{Stops}
use Rattle.wire_batch.specs.Grammar.{form, forms}
use Rattle.wire_batch.specs.Reading.{Place, Verdict, Whole, and_then}
use Rattle.wire_batch.specs.declared.batch.BatchError.{BatchError}
use Rattle.wire_batch.specs.declared.batch.BatchError.TheVariants.{BadBatch, Memory}

-- a step that stops, stops what begins with it
stops_then : {A B : Type 0} (e : BatchError) (v : Verdict A) (after : A → Place → Verdict B) → Stops e v → Stops e (and_then v after)
stops_then (BadBatch at rule) v after h = rw h refl
stops_then Memory v after h = tt

pub one_form : (end count i : ℕ) (earlier : List Entry) (p q : Place) (e : Entry) → i < count → form end p ≡ Whole e q
    → forms end (count - i) earlier p ≡ forms end (count - (i + 1)) (earlier ++ e ∷ []) q
unfolding forms
one_form end count i earlier p q e lt h =
    let k : count - i ≡ suc (count - (i + 1)) = omega arith in
    rw (k, h) refl

pub form_stops : (e : BatchError) (end count i : ℕ) (earlier : List Entry) (p : Place) → i < count → Stops e (form end p) → Stops e (forms end (count - i) earlier p)
unfolding forms
form_stops e end count i earlier p lt h =
    let k : count - i ≡ suc (count - (i + 1)) = omega arith in
    rw k (stops_then e (form end p) (λ x q. forms end (count - (i + 1)) (earlier ++ x ∷ []) q) h)

pub none_left : (end count i : ℕ) (earlier : List Entry) (p : Place) → count ≤ i → forms end (count - i) earlier p ≡ Whole earlier p
unfolding forms
none_left end count i earlier p le =
    let k : count - i ≡ 0 = omega arith in
    rw k refl
