-- Which entries have a frame.
use Rattle.std.specs.Prelude.{◌≡◌, ◌≤◌, ◌<◌, ◌^◌, Option, None, IfSome, All, true}
use Rattle.rep_types.specs.Text.{name_refusal, key_refusal}
use Rattle.rep_types.specs.Edit.{EditValue, IsEdit}
use Rattle.rep_types.specs.declared.cell.Cell.{Cell}
use Rattle.rep_types.specs.declared.cell.CellKind.{CellKind}
use Rattle.rep_types.specs.declared.cell.CellKind.TheVariants.{Put, Erase}
use Rattle.rep_types.specs.declared.entry.Entry.{Entry}
use Rattle.rep_types.specs.declared.entry.EntryKind.{EntryKind}
use Rattle.rep_types.specs.declared.entry.EntryKind.TheVariants.{Opened, Closed, Write}
use Rattle.rep_types.specs.declared.entry.Origin.{Origin}
use Rattle.wal_entry.specs.Frame.{is_value}

-- ---- what the types say

pub record IsTypedCell (c : Cell) : Type 0 where
  pub family : name_refusal c.family ≡ None
  pub qualifier : name_refusal c.qualifier ≡ None
  pub stamp : c.stamp < 2 ^ 64

pub record IsTypedEdit (e : EditValue) : Type 0 where
  pub table : name_refusal e.table ≡ None
  pub row : key_refusal e.row ≡ None
  pub cells : All IsTypedCell e.cells
  pub whole : IsEdit e

abbrev pub IsTypedKind : EntryKind → Type 0
IsTypedKind Opened = Unit {0}
IsTypedKind Closed = Unit {0}
IsTypedKind (Write e) = IsTypedEdit e

pub record IsTypedOrigin (o : Origin) : Type 0 where
  pub peer_least : 1 ≤ o.peer
  pub peer_most : o.peer ≤ 4
  pub region_least : 1 ≤ o.entry.region
  pub region_most : o.entry.region ≤ 4096
  pub seq : o.entry.seq < 2 ^ 64

-- the values of Entry are such; clauses that range over all entries name it
pub record IsTyped (e : Entry) : Type 0 where
  pub region_least : 1 ≤ e.region
  pub region_most : e.region ≤ 4096
  pub seq : e.seq < 2 ^ 64
  pub kind : IsTypedKind e.kind
  pub origin : IfSome e.origin IsTypedOrigin

-- ---- what a frame can hold of them

-- a put's value has the characters of values
abbrev pub HasValue : CellKind → Type 0
HasValue (Put bytes) = is_value bytes ≡ true
HasValue Erase = Unit {0}

-- a marker has no origin
abbrev pub IsFramedKind : EntryKind → Option Origin → Type 0
IsFramedKind Opened origin = origin ≡ None
IsFramedKind Closed origin = origin ≡ None
IsFramedKind (Write e) origin = All (λ c. HasValue c.kind) e.cells

pub record IsFramed (e : Entry) : Type 0 where
  pub seq : 1 ≤ e.seq
  pub marks_least : 1 ≤ e.marks
  pub marks_most : e.marks ≤ 7
  pub origin_seq : IfSome e.origin (λ o. 1 ≤ o.entry.seq)
  pub kind : IsFramedKind e.kind e.origin

-- an entry as the types and frames allow
pub record HasFrame (e : Entry) : Type 0 where
  pub typed : IsTyped e
  pub framed : IsFramed e
