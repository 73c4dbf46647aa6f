-- What a decoder has judged of a frame, and what it judges next.
use Rattle.std.specs.Prelude.{ℕ, ◌≡◌, ◌≤◌, ◌<◌, ◌-◌, ◌++◌, List, length, drop, None, IfSome}
use Rattle.rep_types.specs.declared.entry.Entry.{Entry}
use Rattle.rep_types.specs.declared.entry.EntryKind.TheVariants.{Write}
use Rattle.rep_types.specs.declared.cell.Cell.{Cell}
use Rattle.rep_types.specs.Edit.{EditValue}
use Rattle.wal_entry.specs.declared.decode.Decoder.{Decoder}
use Rattle.wal_entry.specs.declared.decode.write.Begun.{Begun}
use Rattle.wal_entry.specs.Judging.{Place, Grammar, Cut, ◌>>=◌, judge}
use Rattle.wal_entry.specs.Frame.{cells, last, verdict}

-- the edit that has these cells
abbrev pub edit_with : Begun → List Cell → EditValue
edit_with b all = record { table = b.heading.table; row = b.heading.row; cells = all }

-- the cells after those judged, and the padding
abbrev pub remaining : Begun → Grammar Entry
remaining b = do
  all ← cells (b.heading.count - length b.cells) b.cells
  last b.fields (Write (edit_with b all))

-- the place behind the items judged
abbrev pub place_in : Begun → List ℕ → Place
place_in b bytes = record { at = b.at; end = b.end; rest = drop b.at bytes }

-- The items judged stand at the front of the bytes. Whatever follows these, the remaining items decide.
pub record IsBegun (b : Begun) (bytes : List ℕ) : Type 0 where
  pub stands : b.at ≤ length bytes
  pub within : b.at ≤ b.end
  pub most : b.end ≤ 8224
  pub decides : (more : List ℕ) → verdict (bytes ++ more) ≡ judge (remaining b) (place_in b (bytes ++ more))

-- The decoder was shown these bytes, or first ones of them. While there are fewer bytes in all than it waits for, they are
-- cut in the item that ends there.
pub record HasSeen (d : Decoder) (bytes : List ℕ) : Type 0 where
  pub begun : IfSome d.begun (λ b. IsBegun b bytes)
  pub waits : (more : List ℕ) → length (bytes ++ more) < d.until → verdict (bytes ++ more) ≡ Cut d.until

-- how many bytes have to be there before it looks at any
abbrev pub waits_for : Decoder → ℕ
waits_for d = d.until

-- nothing was judged yet
abbrev pub fresh : Decoder
fresh = record { until = 0; begun = None }
