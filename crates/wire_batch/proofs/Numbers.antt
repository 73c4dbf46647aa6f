-- A number among the fields, both ways.
use Rattle.std.proofs.Common.{◌≡◌, ℕ, ◌+◌, ◌^◌, ◌<◌, ◌≤◌, true, false, ltb, List, [], ◌++◌, length, take, drop, refl, sym, ap, ◌∙◌, arith}
use Rattle.std.specs.Int.{is_in_range}
use Rattle.std.proofs.lemmas.Bool.{ltb-false, le-ltb}
use Rattle.std.proofs.lemmas.Bool.Decides.{nat_tests}
use Rattle.std.proofs.lemmas.List.{length-take, take-append-drop, take_at, drop_at, length-append, append-nil}
use Rattle.byteorder.specs.Endian.{big_number, big_bytes}
use Rattle.byteorder.specs.Numbers.{big_number-reads_back, length-bytes_high_first}
use Rattle.wal_entry.proofs.Numbers.{IsSize}
use Rattle.wal_entry.proofs.Places.{IsBytes, IsBytes-front, IsBytes-rest}
use Rattle.wire_batch.specs.Reading.{Place, Verdict, Whole, and_then, moved, end_of, number}
use Rattle.wire_batch.proofs.Reading.{and_then_whole, not_broken, allowed_whole, of_whole}

-- the number's bytes stand at the place
pub record IsNumber (p : Place) (size low high n : ℕ) (q : Place) : Type 0 where
  pub parts : p.rest ≡ big_bytes size n ++ q.rest
  pub at : q.at ≡ p.at + size
  pub least : low ≤ n
  pub most : n ≤ high

in_range : (low high n : ℕ) → is_in_range low high n ≡ true → (low ≤ n) × (n ≤ high)
in_range low high n h = (grind (arith, nat_tests, h), grind (arith, nat_tests, h))

range_in : (low high n : ℕ) → low ≤ n → n ≤ high → is_in_range low high n ≡ true
range_in low high n h k = grind (arith, nat_tests)

number_takes : (field size low high : ℕ) (p q : Place) (n : ℕ) → IsSize size → IsBytes p.rest → number field size low high p ≡ Whole n q → IsNumber p size low high n q
unfolding number
number_takes field size low high p q n wide fits h =
    let enough = not_broken (ltb (length p.rest) size) (end_of p) field _ n q h in
    let a = allowed_whole _ p.at field _ n (moved size p) q enough.1 in
    let range = in_range low high _ a.0 in
    let front = take size p.rest in
    let whole : front ++ drop size p.rest ≡ p.rest = take-append-drop size p.rest in
    let long : length front ≡ size = omega (arith, length-take size p.rest, ltb-false _ _ enough.0) in
    let bytes : big_bytes size (big_number size front) ≡ front = wide.back front long (IsBytes-front front (drop size p.rest) (rw whole fits)) in
    of_whole (λ n q. IsNumber p size low high n q) (big_number size front) n (moved size p) q a.1 (record {
      parts = sym whole ∙ ap (λ (t : List ℕ). t ++ drop size p.rest) (sym bytes);
      at = refl;
      least = range.0;
      most = range.1;
    })

-- what follows from a number and what comes after it, whatever they are
pub with_number : {B R : Type 0} (field size low high : ℕ) (after : ℕ → Place → Verdict B) (p : Place) (y : B) (q : Place) → IsSize size → IsBytes p.rest
    → and_then (number field size low high p) after ≡ Whole y q
    → ((n : ℕ) (m : Place) → IsNumber p size low high n m → IsBytes m.rest → after n m ≡ Whole y q → R) → R
with_number field size low high after p y q wide fits h then =
    let a = and_then_whole _ _ y q h in
    let is = number_takes field size low high p a.1 a.0 wide fits a.2 in
    then a.0 a.1 is (IsBytes-rest (big_bytes size a.0) a.1.rest (rw is.parts at fits)) a.3

-- the place behind so many bytes
abbrev pub past : ℕ → ℕ → List ℕ → Place
past at size rest = record { at = at + size; rest = rest }

pub number_again : (field size low high at n : ℕ) (rest : List ℕ) → n < 256 ^ size → low ≤ n → n ≤ high
    → number field size low high (record { at = at; rest = big_bytes size n ++ rest }) ≡ Whole n (past at size rest)
unfolding number
number_again field size low high at n rest fits least most =
    let long : length (big_bytes size n) ≡ size = length-bytes_high_first size n in
    let enough : ltb (length (big_bytes size n ++ rest)) size ≡ false = le-ltb _ _ (omega (arith, long, length-append (big_bytes size n) rest)) in
    let front : take size (big_bytes size n ++ rest) ≡ big_bytes size n = take_at (big_bytes size n) rest size long in
    let back : drop size (big_bytes size n ++ rest) ≡ rest = drop_at (big_bytes size n) rest size long in
    let value : big_number size (big_bytes size n) ≡ n = ap (big_number size) (sym (append-nil (big_bytes size n))) ∙ big_number-reads_back size n [] fits in
    rw (enough, front, back, value, range_in low high n least most) refl
