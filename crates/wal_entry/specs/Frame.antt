-- The items of a frame, in order, and the entry that they stand for. Numbers have their highest byte first.
use Rattle.std.specs.Prelude.{ℕ, zero, suc, ◌-◌, ◌%◌, ◌^◌, List, [], ◌∷◌, ◌++◌, Bool, ◌==◌, ◌&&◌, ◌||◌, not, Option, Some, None, is_none, if◌then◌else◌}
use Rattle.std.specs.Int.{is_in_range}
use Rattle.std.specs.List.{list_any, list_all}
use Rattle.std.specs.Str.{bytes_eq}
use Rattle.byteorder.specs.Endian.{big_number}
use Rattle.rep_types.specs.Text.{name_byte, name_refusal, key_refusal}
use Rattle.rep_types.specs.Edit.{EditValue}
use Rattle.rep_types.specs.declared.cell.Cell.{Cell}
use Rattle.rep_types.specs.declared.cell.CellKind.{CellKind}
use Rattle.rep_types.specs.declared.cell.CellKind.TheVariants.{Put, Erase}
use Rattle.rep_types.specs.declared.entry.Entry.{Entry}
use Rattle.rep_types.specs.declared.entry.EntryKind.{EntryKind}
use Rattle.rep_types.specs.declared.entry.EntryKind.TheVariants.{Opened, Closed, Write}
use Rattle.rep_types.specs.declared.entry.Origin.{Origin}
use Rattle.rep_types.specs.declared.ids.Cluster.{Cluster}
use Rattle.rep_types.specs.declared.ids.Cluster.TheVariants.{A, B, C}
use Rattle.wal_entry.specs.declared.decode.edit.Heading.{Heading}
use Rattle.wal_entry.specs.declared.decode.frame.Fields.{Fields}
use Rattle.wal_entry.specs.Judging.{Grammar, Verdict, Item, ToEnd, Known, ◌>>=◌, choose, judge, and_then}

-- a letter, a digit, `_` or `.`
abbrev pub value_byte : ℕ → Bool
value_byte b = (name_byte b || is_in_range 65 90 b) || (b == 46)

abbrev pub is_value : List ℕ → Bool
is_value bytes = list_all value_byte bytes

abbrev pub is_name : List ℕ → Bool
is_name text = is_none (name_refusal text)

abbrev pub is_key : List ℕ → Bool
is_key text = is_none (key_refusal text)

-- some cell has this family and qualifier
abbrev pub has_column : List Cell → List ℕ → List ℕ → Bool
has_column cells family qualifier = list_any (λ c. bytes_eq c.family family && bytes_eq c.qualifier qualifier) cells

-- a number of so many bytes, from low to high
unfoldable pub number : ℕ → ℕ → ℕ → ℕ → Grammar ℕ
number field size low high = do
  bytes ← Item field size (λ b. is_in_range low high (big_number size b))
  Known (big_number size bytes)

-- a text behind its length, which has so many bytes and is from low to high
abbrev pub text : ℕ → ℕ → ℕ → (List ℕ → Bool) → Grammar (List ℕ)
text size low high allowed = do
  bytes ← number 10 size low high
  Item 10 bytes allowed

unfoldable pub name : Grammar (List ℕ)
name = text 1 1 16 is_name

unfoldable pub key : Grammar (List ℕ)
key = text 2 1 64 is_key

-- a name that no earlier cell has as its qualifier in this family
unfoldable pub qualifier : List Cell → List ℕ → Grammar (List ℕ)
qualifier earlier family = text 1 1 16 (λ name. is_name name && not (has_column earlier family name))

unfoldable pub value : Grammar (List ℕ)
value = text 2 0 16384 is_value

-- 1 and a value for a put, 2 for a delete
unfoldable pub cell_kind : Grammar CellKind
cell_kind = do
  kind ← number 10 1 1 2
  choose (kind == 1) (value >>= λ bytes. Known (Put bytes)) (Known Erase)

unfoldable pub cell : List Cell → Grammar Cell
cell earlier = do
  family ← name
  qualifier ← qualifier earlier family
  stamp ← number 10 8 0 (2 ^ 64 - 1)
  kind ← cell_kind
  Known (record { family = family; qualifier = qualifier; stamp = stamp; kind = kind })

-- so many cells after the earlier ones
unfoldable pub cells : ℕ → List Cell → Grammar (List Cell)
cells zero earlier = Known earlier
cells (suc more) earlier = do
  next ← cell earlier
  cells more (earlier ++ next ∷ [])

-- what stands before the cells of an edit
unfoldable pub heading : Grammar Heading
heading = do
  table ← name
  row ← key
  count ← number 10 1 1 64
  Known (record { table = table; row = row; count = count })

unfoldable pub edit : Grammar EditValue
edit = do
  head ← heading
  all ← cells head.count []
  Known (record { table = head.table; row = head.row; cells = all })

-- kind 1 is an open marker, 2 a close marker, 3 a write
unfoldable pub body : ℕ → Grammar EntryKind
body kind = choose (kind == 1) (Known Opened) (choose (kind == 2) (Known Closed) (edit >>= λ e. Known (Write e)))

-- zero bytes, at most 7
unfoldable pub padding : Grammar (Unit {0})
padding = ToEnd 11 7 (list_all (λ b. b == 0)) >>= λ zeros. Known tt

-- 1 is cluster a, 2 is b, 3 is c
abbrev pub cluster_of : ℕ → Cluster
cluster_of number = if number == 1 then A else (if number == 2 then B else C)

-- a peer of 0 is no origin
abbrev pub origin_of : ℕ → ℕ → ℕ → ℕ → Option Origin
origin_of peer cluster region seq =
    if peer == 0 then None else
    Some (record { peer = peer; entry = record { cluster = cluster_of cluster; region = region; seq = seq } })

-- a part of an origin is 0 exactly where the peer is
unfoldable pub of_origin : ℕ → ℕ → ℕ → ℕ → Grammar ℕ
of_origin peer field size most = number field size (if peer == 0 then 0 else 1) (if peer == 0 then 0 else most)

-- the fields from the region on
unfoldable pub from_region : ℕ → ℕ → ℕ → ℕ → Grammar Fields
from_region kind marks peer cluster = do
  region ← number 6 4 1 4096
  origin_region ← of_origin peer 7 4 4096
  seq ← number 8 8 1 (2 ^ 64 - 1)
  origin_seq ← of_origin peer 9 8 (2 ^ 64 - 1)
  Known (record { kind = kind; marks = marks; region = region; seq = seq; origin = origin_of peer cluster origin_region origin_seq })

-- The fields after the length. A frame of 32 bytes may be a marker's, which has no origin; each longer one is a write's.
unfoldable pub fields : ℕ → Grammar Fields
fields length = do
  kind ← number 2 1 (if length == 32 then 1 else 3) 3
  marks ← number 3 1 1 7
  peer ← number 4 1 0 (if kind == 3 then 4 else 0)
  cluster ← of_origin peer 5 1 3
  from_region kind marks peer cluster

-- the entry of these fields and a body
abbrev pub entry_of : Fields → EntryKind → Entry
entry_of f what = record { region = f.region; seq = f.seq; kind = what; marks = f.marks; origin = f.origin }

-- the padding behind a body, and the entry of all
unfoldable pub last : Fields → EntryKind → Grammar Entry
last f what = do
  zeros ← padding
  Known (entry_of f what)

unfoldable pub after_length : ℕ → Grammar Entry
after_length length = do
  f ← fields length
  what ← body f.kind
  last f what

-- a multiple of 8 from 32 to 8,224
abbrev pub is_frame_length : ℕ → Bool
is_frame_length n = is_in_range 32 8224 n && (n % 8 == 0)

unfoldable pub frame_length : Grammar ℕ
frame_length = do
  bytes ← Item 1 4 (λ b. is_frame_length (big_number 4 b))
  Known (big_number 4 bytes)

-- What the bytes are from their first on. The frame ends where its length says; until that stands, at the greatest length.
unfoldable pub verdict : List ℕ → Verdict Entry
verdict bytes =
    and_then (judge frame_length (record { at = 0; end = 8224; rest = bytes })) (λ length p.
    judge (after_length length) (record p { end = length }))
