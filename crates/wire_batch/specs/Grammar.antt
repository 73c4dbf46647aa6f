-- The items of a batch, in order, and the batch that they stand for. Numbers have their highest byte first.
use Rattle.std.specs.Prelude.{ℕ, zero, suc, ◌+◌, ◌-◌, ◌^◌, ◌==◌, ◌&&◌, ◌||◌, not, nat_le, nat_lt, List, [], ◌∷◌, ◌++◌, length, Bool, true, false, is_none, if◌then◌else◌}
use Rattle.byteorder.specs.Endian.{big_number}
use Rattle.rep_types.specs.declared.entry.Entry.{Entry}
use Rattle.rep_types.specs.declared.entry.EntryKind.{EntryKind}
use Rattle.rep_types.specs.declared.entry.EntryKind.TheVariants.{Opened, Closed, Write}
use Rattle.wal_entry.specs.Frame.{cluster_of, verdict}
use Rattle.wal_entry.specs.Judging as frame
use Rattle.wire_batch.specs.declared.batch.Batch.{Batch}
use Rattle.wire_batch.specs.declared.heading.Heading.{Heading}
use Rattle.wire_batch.specs.Reading.{Place, Verdict, Whole, Broken, Items, known, ◌>>=◌, moved, end_of, number}

abbrev is_write : EntryKind → Bool
is_write Opened = false
is_write Closed = false
is_write (Write e) = true

-- a write without an origin
abbrev pub is_form : Entry → Bool
is_form e = is_write e.kind && is_none e.origin

-- the fields before the forms
unfoldable pub heading : Items Heading
heading = do
  length ← number 1 4 16 65552
  cluster ← number 2 1 1 3
  peer ← number 3 1 1 4
  server ← number 4 2 1 64
  flight ← number 5 4 1 (2 ^ 32 - 1)
  count ← number 6 2 0 1000
  zeros ← number 7 2 0 0
  known (record { length = length; cluster = cluster_of cluster; peer = peer; server = server; flight = flight; count = count })

-- the frame's length stands, and by it the frame would end past the batch
abbrev pub runs_over : ℕ → Place → Bool
runs_over end p = nat_le 4 (length p.rest) && nat_lt end (p.at + big_number 4 p.rest)

-- What the frame at the place is. It is no form where it ends past the batch, or is no write without an origin; where the bytes
-- end in it, they end too early.
abbrev pub form_of : ℕ → Place → frame.Verdict Entry → Verdict Entry
form_of end p (frame.Broken at field) = Broken (p.at + at) 8
form_of end p (frame.Cut until) = Broken (if runs_over end p then p.at else end_of p) 8
form_of end p (frame.Whole e after) =
    if nat_lt end (p.at + after.at) || not (is_form e) then Broken p.at 8 else Whole e (moved after.at p)

unfoldable pub form : ℕ → Items Entry
form end p = form_of end p (verdict p.rest)

-- so many forms after the earlier ones
unfoldable pub forms : ℕ → ℕ → List Entry → Items (List Entry)
forms end zero earlier = known earlier
forms end (suc more) earlier = do
  next ← form end
  forms end more (earlier ++ next ∷ [])

-- neither the bytes nor the batch's length go on
unfoldable pub nothing_more : ℕ → Items (Unit {0})
nothing_more end p = if (p.at == end) && (length p.rest == 0) then Whole tt p else Broken p.at 8

-- the batch of this heading and forms
abbrev pub batch_of : Heading → List Entry → Batch
batch_of h all = record { cluster = h.cluster; peer = h.peer; server = h.server; flight = h.flight; forms = all }

unfoldable pub batch : Items Batch
batch = do
  head ← heading
  all ← forms head.length head.count []
  nothing ← nothing_more head.length
  known (batch_of head all)

-- what the bytes are
abbrev pub verdict_of : List ℕ → Verdict Batch
verdict_of bytes = batch (record { at = 0; rest = bytes })
