-- The one spelling of an entry in a log. Numbers have their highest byte first.
use Rattle.std.specs.Prelude.{ℕ, ◌-◌, List, [], ◌∷◌, ◌++◌, length, replicate, Option, Some, None}
use Rattle.std.specs.List.{flat_map}
use Rattle.byteorder.specs.Endian.{big_bytes}
use Rattle.rep_types.specs.Edit.{EditValue}
use Rattle.rep_types.specs.declared.cell.Cell.{Cell}
use Rattle.rep_types.specs.declared.cell.CellKind.{CellKind}
use Rattle.rep_types.specs.declared.cell.CellKind.TheVariants.{Put, Erase}
use Rattle.rep_types.specs.declared.entry.Entry.{Entry}
use Rattle.rep_types.specs.declared.entry.EntryKind.{EntryKind}
use Rattle.rep_types.specs.declared.entry.EntryKind.TheVariants.{Opened, Closed, Write}
use Rattle.rep_types.specs.declared.entry.Origin.{Origin}
use Rattle.rep_types.specs.declared.ids.Cluster.{Cluster}
use Rattle.rep_types.specs.declared.ids.Cluster.TheVariants.{A, B, C}
use Rattle.wal_entry.specs.Length.{rounded, body_length, frame_length_of}

-- a text behind its length, which has so many bytes
abbrev pub sized : ℕ → List ℕ → List ℕ
sized size text = big_bytes size (length text) ++ text

abbrev pub cell_kind_spelling : CellKind → List ℕ
cell_kind_spelling (Put value) = 1 ∷ sized 2 value
cell_kind_spelling Erase = 2 ∷ []

abbrev pub cell_spelling : Cell → List ℕ
cell_spelling c = sized 1 c.family ++ (sized 1 c.qualifier ++ (big_bytes 8 c.stamp ++ cell_kind_spelling c.kind))

abbrev pub cells_spelling : List Cell → List ℕ
cells_spelling cells = flat_map cell_spelling cells

abbrev pub edit_spelling : EditValue → List ℕ
edit_spelling e = sized 1 e.table ++ (sized 2 e.row ++ (big_bytes 1 (length e.cells) ++ cells_spelling e.cells))

abbrev pub body_spelling : EntryKind → List ℕ
body_spelling Opened = []
body_spelling Closed = []
body_spelling (Write e) = edit_spelling e

abbrev pub kind_number : EntryKind → ℕ
kind_number Opened = 1
kind_number Closed = 2
kind_number (Write e) = 3

abbrev pub cluster_number : Cluster → ℕ
cluster_number A = 1
cluster_number B = 2
cluster_number C = 3

-- the fields of no origin are 0
abbrev pub origin_peer : Option Origin → ℕ
origin_peer None = 0
origin_peer (Some o) = o.peer

abbrev pub origin_cluster : Option Origin → ℕ
origin_cluster None = 0
origin_cluster (Some o) = cluster_number o.entry.cluster

abbrev pub origin_region : Option Origin → ℕ
origin_region None = 0
origin_region (Some o) = o.entry.region

abbrev pub origin_seq : Option Origin → ℕ
origin_seq None = 0
origin_seq (Some o) = o.entry.seq

-- length, kind, marks, origin peer, origin cluster, region, origin region, sequence id, origin sequence id: 32 bytes
abbrev pub fields_spelling : Entry → List ℕ
fields_spelling e =
    big_bytes 4 (frame_length_of e) ++ (kind_number e.kind ∷ e.marks ∷ origin_peer e.origin ∷ origin_cluster e.origin ∷ [])
    ++ (big_bytes 4 e.region ++ (big_bytes 4 (origin_region e.origin) ++ (big_bytes 8 e.seq ++ big_bytes 8 (origin_seq e.origin))))

-- the fewest zeros that make the length a multiple of 8
abbrev pub padding_spelling : EntryKind → List ℕ
padding_spelling kind = replicate (rounded (body_length kind) - body_length kind) 0

unfoldable pub spelling : Entry → List ℕ
spelling e = fields_spelling e ++ (body_spelling e.kind ++ padding_spelling e.kind)
