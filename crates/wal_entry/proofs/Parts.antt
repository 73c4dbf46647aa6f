-- Texts behind their lengths, and the parts of a cell, both ways.
use Rattle.std.proofs.Common.{◌≡◌, ℕ, ◌^◌, ◌<◌, ◌≤◌, Bool, true, List, length, refl, arith}
use Rattle.byteorder.specs.Endian.{big_bytes}
use Rattle.wal_entry.specs.Judging.{Place, Whole, judge}
use Rattle.wal_entry.specs.Frame.{text}
use Rattle.wal_entry.specs.Spelling.{sized}
use Rattle.wal_entry.proofs.Items.{and_then_whole, item_takes, item_again, IsNumber, number_takes, number_again}
use Rattle.wal_entry.proofs.Numbers.{IsSize}
use Rattle.wal_entry.proofs.Places.{IsBytes, Passes, Passes-both, Passes-first, Passes-second, between}

-- ---- texts

pub record IsTextAt (p : Place) (size low high : ℕ) (allowed : List ℕ → Bool) (t : List ℕ) (q : Place) : Type 0 where
  pub passes : Passes p (sized size t) q
  pub least : low ≤ length t
  pub most : length t ≤ high
  pub is_allowed : allowed t ≡ true
  pub within : q.at ≤ q.end

pub text_takes : (size low high : ℕ) (allowed : List ℕ → Bool) (p q : Place) (t : List ℕ) → IsSize size → IsBytes p.rest → judge (text size low high allowed) p ≡ Whole t q → IsTextAt p size low high allowed t q
text_takes size low high allowed p q t wide fits h =
    let a = and_then_whole _ _ t q h in
    let n = a.0 in
    let m = a.1 in
    let first = number_takes 10 size low high p m n wide fits a.2 in
    let second = item_takes 10 n allowed m q t a.3 in
    let long : length t ≡ n = second.0.long in
    record {
      passes = rw long (Passes-both p m q (big_bytes size n) t first.passes second.0.passes);
      least = omega (arith, first.least);
      most = omega (arith, first.most);
      is_allowed = second.1;
      within = second.0.within;
    }

pub text_again : (size low high : ℕ) (allowed : List ℕ → Bool) (p q : Place) (t : List ℕ) → high < 256 ^ size → IsTextAt p size low high allowed t q → judge (text size low high allowed) p ≡ Whole t q
text_again size low high allowed p q t fits h =
    let n = big_bytes size (length t) in
    let m = between p n t q in
    let second = Passes-second p q n t h.passes in
    let first : IsNumber p size low high (length t) m = record { passes = Passes-first p q n t h.passes; least = h.least; most = h.most; within = omega (arith, second.at, second.end, h.within) } in
    rw (number_again 10 size low high p m (length t) (omega (arith, h.most)) first) (item_again 10 (length t) allowed m q t (record { passes = second; long = refl; within = h.within }) h.is_allowed)
