-- Items in order: when each is judged, and when it is broken.
use Rattle.std.specs.Prelude.{ℕ, ◌≡◌, ◌+◌, ◌-◌, List, length, take, drop, Bool, true, false, nat_lt, if◌then◌else◌}

-- a place in a frame: how far it is from the first byte, where the frame ends, and the bytes from the place on
pub record Place : Type 0 where
  pub at : ℕ
  pub end : ℕ
  pub rest : List ℕ

-- Items in order, which stand for a value. An item belongs to a field and has so many bytes, of which some are allowed;
-- or it goes to the frame's end and has at most so many. Which items come next may depend on those before.
pub data Grammar : Type 0 → Type 1 where
  Item : (field size : ℕ) (allowed : List ℕ → Bool) → Grammar (List ℕ)
  ToEnd : (field most : ℕ) (allowed : List ℕ → Bool) → Grammar (List ℕ)
  Known : {A : Type 0} → A → Grammar A
  Then : {A B : Type 0} → Grammar A → (A → Grammar B) → Grammar B

-- All items stand whole and none is broken: their value, and the place after them. Or the first broken item: the place
-- of its first byte, and its field. Or the bytes end in an item: where that would end.
pub data Verdict (A : Type 0) : Type 0 where
  Whole : A → Place → Verdict A
  Broken : (at field : ℕ) → Verdict A
  Cut : (until : ℕ) → Verdict A

-- the bytes end before the items do
abbrev pub IsCut : {A : Type 0} → Verdict A → Type 0
IsCut v = (until : ℕ) × (v ≡ Cut until)

infixl 10 ◌>>=◌
abbrev pub ◌>>=◌ : {A B : Type 0} → Grammar A → (A → Grammar B) → Grammar B
first >>= others = Then first others

-- the first items where the test is true, else the second
abbrev pub choose : {A : Type 0} → Bool → Grammar A → Grammar A → Grammar A
choose true first second = first
choose false first second = second

-- what comes after whole items decides
abbrev pub and_then : {A B : Type 0} → Verdict A → (A → Place → Verdict B) → Verdict B
and_then (Whole x p) after = after x p
and_then (Broken at field) after = Broken at field
and_then (Cut until) after = Cut until

-- the place after so many bytes
abbrev pub moved : ℕ → Place → Place
moved size p = record p { at = p.at + size; rest = drop size p.rest }

-- an item that would end past the frame's end is broken at once; else it stands whole, or the bytes end before
unfoldable pub standing : ℕ → ℕ → Place → Verdict (List ℕ)
standing field size p =
    if nat_lt p.end (p.at + size) then Broken p.at field else
    (if nat_lt (length p.rest) size then Cut (p.at + size) else Whole (take size p.rest) (moved size p))

-- an item that stands whole is broken where its bytes aren't allowed
abbrev pub item : ℕ → ℕ → (List ℕ → Bool) → Place → Verdict (List ℕ)
item field size allowed p =
    and_then (standing field size p) (λ bytes q. if allowed bytes then Whole bytes q else Broken p.at field)

-- an item is judged where all before it stand whole and none of them is broken
abbrev pub judge : {A : Type 0} → Grammar A → Place → Verdict A
judge (Item field size allowed) p = item field size allowed p
judge (ToEnd field most allowed) p =
    if nat_lt most (p.end - p.at) then Broken p.at field else item field (p.end - p.at) allowed p
judge (Known x) p = Whole x p
judge (Then first others) p = and_then (judge first p) (λ x q. judge (others x) q)
