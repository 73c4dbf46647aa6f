-- The bytes of a run.
use Rattle.std.specs.Prelude.{ℕ, ◌≡◌, ◌≤◌, ◌<◌, ◌^◌, List, [], ◌∷◌, ◌++◌, length, None}
use Rattle.std.specs.List.{flat_map}
use Rattle.byteorder.specs.Endian.{big_bytes}
use Rattle.rep_types.specs.Text.{name_refusal, key_refusal}
use Rattle.rep_types.specs.declared.cell.CellKind.{CellKind}
use Rattle.rep_types.specs.declared.cell.CellKind.TheVariants.{Put, Erase}
use Rattle.rep_types.specs.declared.entry.Rank.{Rank}
use Rattle.wal_entry.specs.Spelling.{sized}
use Rattle.store_file.specs.declared.cell.RunCell.{RunCell}

abbrev pub kind_number : CellKind → ℕ
kind_number (Put value) = 1
kind_number Erase = 2

abbrev pub value_spelling : CellKind → List ℕ
value_spelling (Put value) = sized 2 value
value_spelling Erase = []

abbrev pub rank_spelling : Rank → List ℕ
rank_spelling r = big_bytes 2 r.generation ++ (big_bytes 8 r.seq ++ big_bytes 4 r.replay)

abbrev pub place_spelling : RunCell → List ℕ
place_spelling c = sized 2 c.row ++ (sized 1 c.family ++ sized 1 c.qualifier)

abbrev pub version_spelling : RunCell → List ℕ
version_spelling c = big_bytes 8 c.stamp ++ (kind_number c.kind ∷ rank_spelling c.rank ++ value_spelling c.kind)

abbrev pub cell_spelling : RunCell → List ℕ
cell_spelling c = place_spelling c ++ version_spelling c

unfoldable pub run_spelling : List RunCell → List ℕ
run_spelling cells = big_bytes 8 (length cells) ++ flat_map cell_spelling cells

-- a value that a run can hold
abbrev pub IsShort : CellKind → Type 0
IsShort (Put value) = length value ≤ 65535
IsShort Erase = Unit {0}

-- the values of RunCell are such; clauses that range over all cells name it
pub record IsTypedCell (c : RunCell) : Type 0 where
  pub row : key_refusal c.row ≡ None
  pub family : name_refusal c.family ≡ None
  pub qualifier : name_refusal c.qualifier ≡ None
  pub stamp : c.stamp < 2 ^ 64
  pub generation : c.rank.generation < 2 ^ 16
  pub seq : c.rank.seq < 2 ^ 64
  pub replay : c.rank.replay < 2 ^ 32
