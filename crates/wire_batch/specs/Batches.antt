-- Which batches can be sent.
use Rattle.std.specs.Prelude.{ℕ, ◌≡◌, ◌≤◌, ◌<◌, ◌+◌, ◌^◌, length, All, true, sum_by}
use Rattle.rep_types.specs.declared.entry.Entry.{Entry}
use Rattle.wal_entry.specs.Framed.{IsTyped, IsFramed}
use Rattle.wal_entry.specs.Length.{frame_length_of}
use Rattle.wire_batch.specs.declared.batch.Batch.{Batch}
use Rattle.wire_batch.specs.Grammar.{is_form}

-- a write without an origin that has a frame
pub record IsForm (e : Entry) : Type 0 where
  pub framed : IsFramed e
  pub form : is_form e ≡ true

-- 16 bytes of fields, and the frames
abbrev pub batch_length : Batch → ℕ
batch_length b = 16 + sum_by frame_length_of b.forms

pub record IsSendable (b : Batch) : Type 0 where
  pub flight : 1 ≤ b.flight
  pub forms : All IsForm b.forms
  pub few : length b.forms ≤ 1000
  pub short : batch_length b ≤ 65552

-- the values of Batch are such; clauses that range over all batches name it
pub record IsTypedBatch (b : Batch) : Type 0 where
  pub peer_least : 1 ≤ b.peer
  pub peer_most : b.peer ≤ 4
  pub server_least : 1 ≤ b.server
  pub server_most : b.server ≤ 64
  pub flight_most : b.flight < 2 ^ 32
  pub entries : All IsTyped b.forms

-- a batch as the types and the format allow
pub record HasBytes (b : Batch) : Type 0 where
  pub typed : IsTypedBatch b
  pub sendable : IsSendable b
