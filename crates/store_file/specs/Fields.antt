-- The fields of a cell as the bytes of a run give them, allowed or not. Numbers have their highest byte first.
use Rattle.std.specs.Prelude.{ℕ, ◌==◌, ◌&&◌, ◌||◌, Bool, nat_lt, List, length, take, drop, Option, Some, None, if◌then◌else◌}
use Rattle.byteorder.specs.Endian.{big_number}
use Rattle.rep_types.specs.declared.cell.CellKind.{CellKind}
use Rattle.rep_types.specs.declared.cell.CellKind.TheVariants.{Put, Erase}
use Rattle.rep_types.specs.declared.entry.Rank.{Rank}
use Rattle.wal_entry.specs.Frame.{is_name, is_key}
use Rattle.store_file.specs.declared.cell.RunCell.{RunCell}

-- what was read, and the bytes after it
pub record Read (A : Type 0) : Type 0 where
  pub value : A
  pub rest : List ℕ

-- what comes first, and then what comes after it; None where the bytes end in either
abbrev pub and_then : {A B : Type 0} → Option (Read A) → (A → List ℕ → Option (Read B)) → Option (Read B)
and_then None after = None
and_then (Some r) after = after r.value r.rest

-- so many bytes
unfoldable pub front : ℕ → List ℕ → Option (Read (List ℕ))
front size bytes = if nat_lt (length bytes) size then None else Some (record { value = take size bytes; rest = drop size bytes })

-- a number of so many bytes
unfoldable pub number : ℕ → List ℕ → Option (Read ℕ)
number size bytes = and_then (front size bytes) (λ digits rest. Some (record { value = big_number size digits; rest = rest }))

-- a text behind its length, which has so many bytes
unfoldable pub text : ℕ → List ℕ → Option (Read (List ℕ))
text size bytes = and_then (number size bytes) (λ long rest. front long rest)

-- generation, sequence id and replay number
unfoldable pub rank_bytes : List ℕ → Option (Read Rank)
rank_bytes bytes =
    and_then (number 2 bytes) (λ generation rest.
    and_then (number 8 rest) (λ seq rest.
    and_then (number 4 rest) (λ replay rest.
    Some (record { value = record { generation = generation; seq = seq; replay = replay }; rest = rest }))))

-- the value of a put, nothing of anything else
unfoldable pub value_bytes : ℕ → List ℕ → Option (Read (List ℕ))
value_bytes kind bytes = if kind == 1 then text 2 bytes else front 0 bytes

-- the fields of one cell
pub record FieldsValue : Type 0 where
  pub row : List ℕ
  pub family : List ℕ
  pub qualifier : List ℕ
  pub stamp : ℕ
  pub kind : ℕ
  pub rank : Rank
  pub value : List ℕ

unfoldable pub fields : List ℕ → Option (Read FieldsValue)
fields bytes =
    and_then (text 2 bytes) (λ row rest.
    and_then (text 1 rest) (λ family rest.
    and_then (text 1 rest) (λ qualifier rest.
    and_then (number 8 rest) (λ stamp rest.
    and_then (number 1 rest) (λ kind rest.
    and_then (rank_bytes rest) (λ rank rest.
    and_then (value_bytes kind rest) (λ value rest.
    Some (record {
      value = record { row = row; family = family; qualifier = qualifier; stamp = stamp; kind = kind; rank = rank; value = value };
      rest = rest;
    }))))))))

-- a row is a key, a family and a qualifier are names, and what isn't a put is a delete
abbrev pub is_allowed : FieldsValue → Bool
is_allowed f = is_key f.row && (is_name f.family && (is_name f.qualifier && ((f.kind == 1) || (f.kind == 2))))

abbrev pub kind_of : FieldsValue → CellKind
kind_of f = if f.kind == 1 then Put f.value else Erase

-- the cell of fields that are allowed
abbrev pub cell_of : FieldsValue → RunCell
cell_of f = record { row = f.row; family = f.family; qualifier = f.qualifier; stamp = f.stamp; kind = kind_of f; rank = f.rank }
