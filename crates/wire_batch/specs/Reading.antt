-- Items in order: when each is judged, and when it is broken.
use Rattle.std.specs.Prelude.{ℕ, ◌+◌, List, length, take, drop, nat_lt, if◌then◌else◌}
use Rattle.std.specs.Int.{is_in_range}
use Rattle.byteorder.specs.Endian.{big_number}

-- a place in a batch: how far it is from the first byte, and the bytes from the place on
pub record Place : Type 0 where
  pub at : ℕ
  pub rest : List ℕ

-- All items stand whole and none is broken: their value, and the place after them. Or the first broken item: its place, and its field.
pub data Verdict (A : Type 0) : Type 0 where
  Whole : A → Place → Verdict A
  Broken : (at field : ℕ) → Verdict A

-- items in order, which stand for a value
abbrev pub Items : Type 0 → Type 0
Items A = Place → Verdict A

-- no item
abbrev pub known : {A : Type 0} → A → Items A
known x p = Whole x p

-- what comes after whole items decides
abbrev pub and_then : {A B : Type 0} → Verdict A → (A → Items B) → Verdict B
and_then (Whole x p) after = after x p
and_then (Broken at field) after = Broken at field

infixl 10 ◌>>=◌
abbrev pub ◌>>=◌ : {A B : Type 0} → Items A → (A → Items B) → Items B
◌>>=◌ first others p = and_then (first p) others

-- the place after so many bytes
abbrev pub moved : ℕ → Place → Place
moved size p = record { at = p.at + size; rest = drop size p.rest }

-- where the bytes end
abbrev pub end_of : Place → ℕ
end_of p = p.at + length p.rest

-- a number of so many bytes, from low to high
unfoldable pub number : ℕ → ℕ → ℕ → ℕ → Items ℕ
number field size low high p =
    if nat_lt (length p.rest) size then Broken (end_of p) field else
    (if is_in_range low high (big_number size (take size p.rest)) then Whole (big_number size (take size p.rest)) (moved size p) else Broken p.at field)
