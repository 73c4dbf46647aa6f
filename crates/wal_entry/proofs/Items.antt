-- An item that stands whole and isn't broken, both ways.
use Rattle.std.proofs.Common.{◌≡◌, ℕ, ◌+◌, ◌^◌, ◌<◌, ◌≤◌, Bool, true, false, cond, ltb, List, [], length, take, drop, refl, sym, ap, subst, ◌∙◌, arith}
use Rattle.std.specs.Int.{is_in_range}
use Rattle.std.proofs.lemmas.Bool.{ltb-false, le-ltb}
use Rattle.std.proofs.lemmas.Bool.Decides.{nat_tests}
use Rattle.std.proofs.lemmas.List.{length-take, take-append-drop, take_at, drop_at, length-append, append-nil}
use Rattle.byteorder.specs.Endian.{big_number, big_bytes}
use Rattle.byteorder.specs.Numbers.{big_number-reads_back, length-bytes_high_first}
use Rattle.wal_entry.specs.Judging.{Place, Verdict, Whole, Broken, Cut, and_then, moved, standing, item, judge}
use Rattle.wal_entry.specs.Frame.{number}
use Rattle.wal_entry.proofs.Places.{IsBytes, IsBytes-front, IsBytes-passed, Passes, same_place}
use Rattle.wal_entry.proofs.Numbers.{IsSize}

-- of whole items, the first ones are whole, and so are those that come after
pub and_then_whole : {A B : Type 0} (v : Verdict A) (after : A → Place → Verdict B) (y : B) (q : Place) → and_then v after ≡ Whole y q
    → (x : A) × (m : Place) × (v ≡ Whole x m) × (after x m ≡ Whole y q)
and_then_whole (Whole x m) after y q h = (x, m, refl, h)
and_then_whole (Broken at field) after y q h = absurd (cc)
and_then_whole (Cut until) after y q h = absurd (cc)

-- what follows from the first ones and those that come after, whatever they are
pub with_first : {A B R : Type 0} (v : Verdict A) (after : A → Place → Verdict B) (y : B) (q : Place) → and_then v after ≡ Whole y q
    → ((x : A) (m : Place) → v ≡ Whole x m → after x m ≡ Whole y q → R) → R
with_first v after y q h then = let a = and_then_whole v after y q h in then a.0 a.1 a.2 a.3

-- ---- tests that were passed

pub not_broken : {A : Type 0} (b : Bool) (at field : ℕ) (v : Verdict A) (x : A) (q : Place) → cond b (Broken at field) v ≡ Whole x q → (b ≡ false) × (v ≡ Whole x q)
not_broken true at field v x q h = absurd (cc)
not_broken false at field v x q h = (refl, h)

not_cut : {A : Type 0} (b : Bool) (until : ℕ) (v : Verdict A) (x : A) (q : Place) → cond b (Cut until) v ≡ Whole x q → (b ≡ false) × (v ≡ Whole x q)
not_cut true until v x q h = absurd (cc)
not_cut false until v x q h = (refl, h)

allowed_whole : {A : Type 0} (b : Bool) (at field : ℕ) (x y : A) (p q : Place) → cond b (Whole x p) (Broken at field) ≡ Whole y q → (b ≡ true) × (◌≡◌ {A = Verdict A} (Whole x p) (Whole y q))
allowed_whole true at field x y p q h = (refl, h)
allowed_whole false at field x y p q h = absurd (cc)

-- one verdict has one value and one place
pub of_whole : {A : Type 0} (P : A → Place → Type 0) (x y : A) (p q : Place) → ◌≡◌ {A = Verdict A} (Whole x p) (Whole y q) → P x p → P y q
of_whole P x y p q h here =
    let value : x ≡ y = cc in
    let place : p ≡ q = cc in
    subst (λ (m : Place). P y m) place (subst (λ z. P z p) value here)

-- ---- items

pub record Stands (p : Place) (size : ℕ) (bytes : List ℕ) (q : Place) : Type 0 where
  pub passes : Passes p bytes q
  pub long : length bytes ≡ size
  pub within : q.at ≤ q.end

Stands-standing : (field size : ℕ) (p q : Place) (bytes : List ℕ) → standing field size p ≡ Whole bytes q → Stands p size bytes q
unfolding standing
Stands-standing field size p q bytes h =
    let first = not_broken _ _ _ _ _ _ h in
    let second = not_cut _ _ _ _ _ first.1 in
    let room : p.at + size ≤ p.end = ltb-false _ _ first.0 in
    let long : size ≤ length p.rest = ltb-false _ _ second.0 in
    of_whole (λ bytes q. Stands p size bytes q) (take size p.rest) bytes (moved size p) q second.1 (record {
      passes = record { parts = sym (take-append-drop size p.rest); at = omega (arith, length-take size p.rest); end = refl };
      long = omega (arith, length-take size p.rest);
      within = room;
    })

standing-Stands : (field size : ℕ) (p q : Place) (bytes : List ℕ) → Stands p size bytes q → standing field size p ≡ Whole bytes q
unfolding standing
standing-Stands field size p q bytes h =
    let room : ltb p.end (p.at + size) ≡ false = le-ltb _ _ (omega (arith, h.within, h.long, h.passes.at, h.passes.end)) in
    let long : ltb (length p.rest) size ≡ false = le-ltb _ _ (omega (arith, h.long, ap length h.passes.parts, length-append bytes q.rest)) in
    let front : take size p.rest ≡ bytes = ap (take size) h.passes.parts ∙ take_at bytes q.rest size h.long in
    let back : drop size p.rest ≡ q.rest = ap (drop size) h.passes.parts ∙ drop_at bytes q.rest size h.long in
    let same : moved size p ≡ q = same_place (moved size p) q (omega (arith, h.long, h.passes.at)) (sym h.passes.end) back in
    rw (room, long, front, same) refl

pub item_takes : (field size : ℕ) (allowed : List ℕ → Bool) (p q : Place) (bytes : List ℕ) → item field size allowed p ≡ Whole bytes q → Stands p size bytes q × (allowed bytes ≡ true)
item_takes field size allowed p q bytes h =
    let a = and_then_whole (standing field size p) (λ bytes q. cond (allowed bytes) (Whole bytes q) (Broken p.at field)) bytes q h in
    let b = allowed_whole (allowed a.0) p.at field a.0 bytes a.1 q a.3 in
    of_whole (λ bytes q. Stands p size bytes q × (allowed bytes ≡ true)) a.0 bytes a.1 q b.1 (Stands-standing field size p a.1 a.0 a.2, b.0)

pub item_again : (field size : ℕ) (allowed : List ℕ → Bool) (p q : Place) (bytes : List ℕ) → Stands p size bytes q → allowed bytes ≡ true → item field size allowed p ≡ Whole bytes q
item_again field size allowed p q bytes h is_allowed = rw (standing-Stands field size p q bytes h, is_allowed) refl

-- ---- numbers

pub record IsNumber (p : Place) (size low high n : ℕ) (q : Place) : Type 0 where
  pub passes : Passes p (big_bytes size n) q
  pub least : low ≤ n
  pub most : n ≤ high
  pub within : q.at ≤ q.end

in_range : (low high n : ℕ) → is_in_range low high n ≡ true → (low ≤ n) × (n ≤ high)
in_range low high n h = (grind (arith, nat_tests, h), grind (arith, nat_tests, h))

range_in : (low high n : ℕ) → low ≤ n → n ≤ high → is_in_range low high n ≡ true
range_in low high n h k = grind (arith, nat_tests)

pub number_takes : (field size low high : ℕ) (p q : Place) (n : ℕ) → IsSize size → IsBytes p.rest → judge (number field size low high) p ≡ Whole n q → IsNumber p size low high n q
unfolding number
number_takes field size low high p q n wide fits h =
    let a = and_then_whole (item field size (λ b. is_in_range low high (big_number size b)) p) (λ b m. Whole (big_number size b) m) n q h in
    let b = item_takes field size (λ b. is_in_range low high (big_number size b)) p a.1 a.0 a.2 in
    let range = in_range low high (big_number size a.0) b.1 in
    let bytes : big_bytes size (big_number size a.0) ≡ a.0 = wide.back a.0 b.0.long (IsBytes-front a.0 a.1.rest (rw b.0.passes.parts at fits)) in
    of_whole (λ n q. IsNumber p size low high n q) (big_number size a.0) n a.1 q a.3 (record { passes = rw bytes b.0.passes; least = range.0; most = range.1; within = b.0.within })

-- what follows from a number and what comes after it, whatever they are
pub with_number : {B R : Type 0} (field size low high : ℕ) (after : ℕ → Place → Verdict B) (p : Place) (y : B) (q : Place) → IsSize size → IsBytes p.rest
    → and_then (judge (number field size low high) p) after ≡ Whole y q
    → ((n : ℕ) (m : Place) → IsNumber p size low high n m → IsBytes m.rest → after n m ≡ Whole y q → R) → R
with_number field size low high after p y q wide fits h then =
    let a = and_then_whole _ _ y q h in
    let is = number_takes field size low high p a.1 a.0 wide fits a.2 in
    then a.0 a.1 is (IsBytes-passed p a.1 (big_bytes size a.0) is.passes fits) a.3

pub number_again : (field size low high : ℕ) (p q : Place) (n : ℕ) → n < 256 ^ size → IsNumber p size low high n q → judge (number field size low high) p ≡ Whole n q
unfolding number
number_again field size low high p q n fits h =
    let value : big_number size (big_bytes size n) ≡ n = ap (big_number size) (sym (append-nil (big_bytes size n))) ∙ big_number-reads_back size n [] fits in
    let stands : Stands p size (big_bytes size n) q = record { passes = h.passes; long = length-bytes_high_first size n; within = h.within } in
    let whole = item_again field size (λ b. is_in_range low high (big_number size b)) p q (big_bytes size n) stands (rw value (range_in low high n h.least h.most)) in
    rw (whole, value) refl
