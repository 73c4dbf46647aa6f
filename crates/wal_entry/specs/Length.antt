-- The length of an entry's frame.
use Rattle.std.specs.Prelude.{ℕ, ◌+◌, ◌*◌, ◌/◌}
use Rattle.rep_types.specs.Edit.{edit_length}
use Rattle.rep_types.specs.declared.entry.Entry.{Entry}
use Rattle.rep_types.specs.declared.entry.EntryKind.{EntryKind}
use Rattle.rep_types.specs.declared.entry.EntryKind.TheVariants.{Opened, Closed, Write}

-- the least multiple of 8 that isn't below n
abbrev pub rounded : ℕ → ℕ
rounded n = (n + 7) / 8 * 8

-- the bytes between the fields and the padding
abbrev pub body_length : EntryKind → ℕ
body_length Opened = 0
body_length Closed = 0
body_length (Write e) = edit_length e

-- 32 bytes of fields, the edit of a write, and the padding
abbrev pub frame_length : EntryKind → ℕ
frame_length kind = 32 + rounded (body_length kind)

abbrev pub frame_length_of : Entry → ℕ
frame_length_of e = frame_length e.kind
