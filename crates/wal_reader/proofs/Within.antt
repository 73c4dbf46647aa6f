-- A frame stands within the bytes, and so does the first broken item.
use Rattle.std.proofs.Common.{◌≡◌, ℕ, ◌+◌, ◌-◌, ◌≤◌, Bool, true, false, cond, ltb, List, length, drop, ap, arith, inl, inr}
use Rattle.std.proofs.lemmas.Bool.{cases_lt, lt-ltb, le-ltb}
use Rattle.std.proofs.lemmas.List.{length-append, length-drop}
use Rattle.rep_types.specs.declared.entry.Entry.{Entry}
use Rattle.wal_entry.specs.Decoded.{BeginsWithFrame}
use Rattle.wal_entry.specs.Frame.{frame_length, after_length, verdict}
use Rattle.wal_entry.specs.Judging.{Place, Grammar, Item, ToEnd, Known, Then, Verdict, Whole, Broken, Cut, and_then, standing, item, judge}
use Rattle.wal_entry.specs.Spelling.{spelling}
use Rattle.wal_entry.proofs.Verdicts.{length-spelling}

-- whole items end within the bytes, and a broken one begins within them
abbrev IsWithin : {A : Type 0} → Place → Verdict A → Type 0
IsWithin p (Whole x q) = q.at + length q.rest ≤ p.at + length p.rest
IsWithin p (Broken at field) = at ≤ p.at + length p.rest
IsWithin p (Cut until) = Unit {0}

within_from : {A : Type 0} (p q : Place) (v : Verdict A) → q.at + length q.rest ≤ p.at + length p.rest → IsWithin q v → IsWithin p v
within_from p q (Whole x r) le h = omega (arith, le, h)
within_from p q (Broken at field) le h = omega (arith, le, h)
within_from p q (Cut until) le h = tt

and_then_within : {A B : Type 0} (p : Place) (v : Verdict A) (f : A → Place → Verdict B) → IsWithin p v
    → ((x : A) (q : Place) → q.at + length q.rest ≤ p.at + length p.rest → IsWithin p (f x q)) → IsWithin p (and_then v f)
and_then_within p (Whole x q) f h k = k x q h
and_then_within p (Broken at field) f h k = h
and_then_within p (Cut until) f h k = tt

chosen_within : {A : Type 0} (p : Place) (b : Bool) (v w : Verdict A) → IsWithin p v → IsWithin p w → IsWithin p (cond b v w)
chosen_within p true v w h k = h
chosen_within p false v w h k = k

standing_within : (field size : ℕ) (p : Place) → IsWithin p (standing field size p)
unfolding standing
standing_within field size p =
    let here : p.at ≤ p.at + length p.rest = omega arith in
    chosen_within p (ltb p.end (p.at + size)) _ _ here (elim (cases_lt (length p.rest) size) [
      | inl few ↦ let cut : ltb (length p.rest) size ≡ true = lt-ltb _ _ few in rw cut tt
      | inr enough ↦ let whole : ltb (length p.rest) size ≡ false = le-ltb _ _ enough in rw whole (omega (arith, length-drop size p.rest))
    ])

item_within : (field size : ℕ) (allowed : List ℕ → Bool) (p : Place) → IsWithin p (item field size allowed p)
item_within field size allowed p =
    let here : p.at ≤ p.at + length p.rest = omega arith in
    and_then_within p (standing field size p) _ (standing_within field size p) (λ bytes q le. chosen_within p (allowed bytes) (Whole bytes q) (Broken p.at field) le here)

judged_within : {A : Type 0} (g : Grammar A) (p : Place) → IsWithin p (judge g p)
judged_within (Item field size allowed) p = item_within field size allowed p
judged_within (ToEnd field most allowed) p =
    let here : p.at ≤ p.at + length p.rest = omega arith in
    chosen_within p (ltb most (p.end - p.at)) _ _ here (item_within field (p.end - p.at) allowed p)
judged_within (Known x) p = omega arith
judged_within (Then first others) p =
    and_then_within p (judge first p) _ (judged_within first p) (λ x q le. within_from p q (judge (others x) q) le (judged_within (others x) q))

verdict_within : (bytes : List ℕ) → IsWithin (record { at = 0; end = 8224; rest = bytes }) (verdict bytes)
unfolding verdict
verdict_within bytes =
    let p : Place = record { at = 0; end = 8224; rest = bytes } in
    and_then_within p (judge frame_length p) _ (judged_within frame_length p)
    (λ n q le. within_from p q (judge (after_length n) (record q { end = n })) le (judged_within (after_length n) (record q { end = n })))

pub broken_within : (bytes : List ℕ) (at field : ℕ) → verdict bytes ≡ Broken at field → at ≤ length bytes
broken_within bytes at field h =
    let within : at ≤ 0 + length bytes = rw h at (verdict_within bytes) in
    omega (arith, within)

pub frame_within : (bytes : List ℕ) (e : Entry) (size : ℕ) → BeginsWithFrame bytes e size → size ≤ length bytes
frame_within bytes e size h =
    omega (arith, ap length h.begins, length-append (spelling e) (drop size bytes), length-spelling e, h.size_is)
