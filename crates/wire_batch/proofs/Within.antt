-- What a frame's verdict says of the place in the bytes.
use Rattle.std.proofs.Common.{◌≡◌, ℕ, ◌+◌, ◌-◌, ◌≤◌, Bool, true, false, cond, ltb, List, length, drop, refl, sym, ap, ◌∙◌, arith, inl, inr}
use Rattle.std.proofs.lemmas.Bool.{cases_lt, lt-ltb, le-ltb}
use Rattle.std.proofs.lemmas.List.{length-append}
use Rattle.byteorder.specs.Endian.{big_number}
use Rattle.rep_types.specs.declared.entry.Entry.{Entry}
use Rattle.wal_entry.specs.Decoded.{BeginsWithFrame}
use Rattle.wal_entry.specs.Frame.{is_frame_length, frame_length, after_length, verdict}
use Rattle.wal_entry.specs.Judging.{Place, Grammar, Item, ToEnd, Known, Then, Verdict, Whole, Broken, Cut, and_then, standing, item, judge}
use Rattle.wal_entry.specs.Spelling.{spelling}
use Rattle.wal_entry.proofs.Items.{and_then_whole, of_whole, item_takes}
use Rattle.wal_entry.proofs.Verdicts.{length_range, length-spelling}

-- what is whole ends in the frame, and what is broken begins in it
abbrev Lies : {A : Type 0} → ℕ → Verdict A → Type 0
Lies end (Whole x q) = (q.at ≤ q.end) × (q.end ≡ end)
Lies end (Broken at field) = at ≤ end
Lies end (Cut until) = Unit {0}

and_then_lies : {A B : Type 0} (end : ℕ) (v : Verdict A) (f : A → Place → Verdict B) → Lies end v → ((x : A) (q : Place) → q.at ≤ q.end → q.end ≡ end → Lies end (f x q)) → Lies end (and_then v f)
and_then_lies end (Whole x q) f h k = k x q h.0 h.1
and_then_lies end (Broken at field) f h k = h
and_then_lies end (Cut until) f h k = tt

standing_lies : (field size : ℕ) (p : Place) → p.at ≤ p.end → Lies p.end (standing field size p)
unfolding standing
standing_lies field size p h =
    elim (cases_lt p.end (p.at + size)) [
      | inl lt ↦ let past : ltb p.end (p.at + size) ≡ true = lt-ltb _ _ lt in rw past h
      | inr le ↦
          let room : ltb p.end (p.at + size) ≡ false = le-ltb _ _ le in
          rw room (elim (cases_lt (length p.rest) size) [
            | inl few ↦ let cut : ltb (length p.rest) size ≡ true = lt-ltb _ _ few in rw cut tt
            | inr enough ↦ let whole : ltb (length p.rest) size ≡ false = le-ltb _ _ enough in rw whole (le, refl)
          ])
    ]

chosen_lies : {A : Type 0} (end : ℕ) (b : Bool) (v w : Verdict A) → Lies end v → Lies end w → Lies end (cond b v w)
chosen_lies end true v w h k = h
chosen_lies end false v w h k = k

item_lies : (field size : ℕ) (allowed : List ℕ → Bool) (p : Place) → p.at ≤ p.end → Lies p.end (item field size allowed p)
item_lies field size allowed p h =
    and_then_lies p.end (standing field size p) _ (standing_lies field size p h) (λ bytes q within end. chosen_lies p.end (allowed bytes) _ _ (within, end) h)

lies_from : {A : Type 0} (end from : ℕ) (v : Verdict A) → from ≡ end → Lies from v → Lies end v
lies_from end from (Whole x q) same h = (h.0, h.1 ∙ same)
lies_from end from (Broken at field) same h = omega (arith, h, same)
lies_from end from (Cut until) same h = tt

lies : {A : Type 0} (g : Grammar A) (p : Place) → p.at ≤ p.end → Lies p.end (judge g p)
lies (Item field size allowed) p h = item_lies field size allowed p h
lies (ToEnd field most allowed) p h = chosen_lies p.end (ltb most (p.end - p.at)) _ _ h (item_lies field (p.end - p.at) allowed p h)
lies (Known x) p h = (h, refl)
lies (Then first others) p h =
    and_then_lies p.end (judge first p) _ (lies first p h) (λ x q within end. lies_from p.end q.end _ end (lies (others x) q within))

-- a broken item begins within the longest frame
abbrev Near : {A : Type 0} → Verdict A → Type 0
Near (Whole x q) = Unit {0}
Near (Broken at field) = at ≤ 8224
Near (Cut until) = Unit {0}

near_of : {A : Type 0} (end : ℕ) (v : Verdict A) → end ≤ 8224 → Lies end v → Near v
near_of end (Whole x q) most h = tt
near_of end (Broken at field) most h = omega (arith, h, most)
near_of end (Cut until) most h = tt

first_near : (p : Place) (v : Verdict ℕ) (f : ℕ → Place → Verdict Entry) → v ≡ judge frame_length p → Near v → ((n : ℕ) (q : Place) → judge frame_length p ≡ Whole n q → Near (f n q)) → Near (and_then v f)
first_near p (Whole n q) f e h k = k n q (sym e)
first_near p (Broken at field) f e h k = h
first_near p (Cut until) f e h k = tt

-- the first item is the length, which ends at 4 where it is whole
ends_at_4 : (bytes : List ℕ) (n : ℕ) (q : Place) → judge frame_length (record { at = 0; end = 8224; rest = bytes }) ≡ Whole n q → q.at ≡ 4
unfolding frame_length
ends_at_4 bytes n q h =
    let a = and_then_whole _ _ n q h in
    let b = item_takes 1 4 (λ b. is_frame_length (big_number 4 b)) (record { at = 0; end = 8224; rest = bytes }) a.1 a.0 a.2 in
    of_whole (λ n q. q.at ≡ 4) (big_number 4 a.0) n a.1 q a.3 (omega (arith, b.0.passes.at, b.0.long))

verdict_near : (bytes : List ℕ) → Near (verdict bytes)
unfolding verdict
verdict_near bytes =
    let p : Place = record { at = 0; end = 8224; rest = bytes } in
    first_near p (judge frame_length p) _ refl (near_of 8224 _ (omega arith) (lies frame_length p (omega arith))) (λ n q h.
    let range = length_range p q n h in
    near_of n _ range.most (lies (after_length n) (record q { end = n }) (omega (arith, ends_at_4 bytes n q h, range.least))))

of_broken : {A : Type 0} (v : Verdict A) (at field : ℕ) → v ≡ Broken at field → Near v → at ≤ 8224
of_broken (Whole x q) at field e h = absurd (cc)
of_broken (Broken from rule) at field e h = let same : from ≡ at = cc in omega (arith, h, same)
of_broken (Cut until) at field e h = absurd (cc)

pub broken_near : (bytes : List ℕ) (at field : ℕ) → verdict bytes ≡ Broken at field → at ≤ 8224
broken_near bytes at field e = of_broken (verdict bytes) at field e (verdict_near bytes)

pub frame_within : (bytes : List ℕ) (e : Entry) (size : ℕ) → BeginsWithFrame bytes e size → size ≤ length bytes
frame_within bytes e size h =
    omega (arith, ap length h.begins, length-append (spelling e) (drop size bytes), length-spelling e, h.size_is)
