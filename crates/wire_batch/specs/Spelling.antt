-- The one spelling of a batch. Numbers have their highest byte first.
use Rattle.std.specs.Prelude.{ℕ, List, [], ◌∷◌, ◌++◌, length}
use Rattle.std.specs.List.{flat_map}
use Rattle.byteorder.specs.Endian.{big_bytes}
use Rattle.rep_types.specs.declared.entry.Entry.{Entry}
use Rattle.wal_entry.specs.Spelling.{cluster_number, spelling}
use Rattle.wire_batch.specs.declared.batch.Batch.{Batch}
use Rattle.wire_batch.specs.declared.heading.Heading.{Heading}
use Rattle.wire_batch.specs.Batches.{batch_length}

-- the fields before the forms
abbrev pub heading_of : Batch → Heading
heading_of b = record { length = batch_length b; cluster = b.cluster; peer = b.peer; server = b.server; flight = b.flight; count = length b.forms }

-- length, cluster, peer, server, flight, number of forms, zero: 16 bytes
abbrev pub heading_spelling : Heading → List ℕ
heading_spelling h =
    big_bytes 4 h.length ++ (cluster_number h.cluster ∷ h.peer ∷ [])
    ++ (big_bytes 2 h.server ++ (big_bytes 4 h.flight ++ (big_bytes 2 h.count ++ big_bytes 2 0)))

-- the frames, one behind the other
abbrev pub forms_spelling : List Entry → List ℕ
forms_spelling forms = flat_map spelling forms

unfoldable pub batch_spelling : Batch → List ℕ
batch_spelling b = heading_spelling (heading_of b) ++ forms_spelling b.forms
