-- What is shipped of an entry.
use Rattle.std.specs.Prelude.{ℕ, ◌&&◌, not, List, Option, None, if◌then◌else◌}
use Rattle.rep_types.specs.Edit.{EditValue}
use Rattle.rep_types.specs.declared.table.Family.{Family}
use Rattle.rep_types.specs.declared.ids.Cluster.{Cluster}
use Rattle.rep_types.specs.declared.entry.Entry.{Entry}
use Rattle.rep_types.specs.declared.entry.EntryKind.{EntryKind}
use Rattle.rep_types.specs.declared.entry.EntryKind.TheVariants.{Opened, Closed, Write}
use Rattle.rep_model.specs.Forms.{is_marked, cut_kind}
use Rattle.rep_model.specs.Peers.{has_table}

-- a write of a table that the peer covers, which its destination hasn't consumed, cut to its cells of families with scope 1
abbrev pub form_of_kind : Cluster → List (List ℕ) → List Family → ℕ → EntryKind → Option EditValue
form_of_kind to tables families marks Opened = None
form_of_kind to tables families marks Closed = None
form_of_kind to tables families marks (Write edit) =
    if has_table tables edit.table && not (is_marked to marks) then cut_kind families (Write edit) else None

abbrev pub form : Cluster → List (List ℕ) → List Family → Entry → Option EditValue
form to tables families x = form_of_kind to tables families x.marks x.kind
