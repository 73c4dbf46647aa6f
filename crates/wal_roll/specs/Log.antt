-- A log, the file that it stands in, and what its writer knows of it.
use Rattle.std.specs.Prelude.{ℕ, ◌+◌, ◌≤◌, ◌≡◌, Bool, true, false, List, ◌++◌, length, take, map, sum, Option, Some, codes}
use Rattle.std.specs.List.{flat_map}
use Rattle.std.specs.Fmt.{decimal}
use Rattle.rep_types.specs.declared.entry.Entry.{Entry}
use Rattle.wal_entry.specs.Spelling.{spelling}
use Rattle.rep_vault.specs.Contents.{File, Contents}

-- committed entries, and pending ones behind them
pub record Log : Type 0 where
  pub server : ℕ
  pub number : ℕ
  pub committed : List Entry
  pub pending : List Entry
  pub broken : Bool

abbrev pub wal : List ℕ
wal = codes "wal"

-- the server, a dot and the log's number
unfoldable pub log_name : ℕ → ℕ → List ℕ
log_name server number = decimal server ++ (codes "." ++ decimal number)

abbrev pub frames : List Entry → List ℕ
frames es = flat_map spelling es

abbrev pub frame_size : Entry → ℕ
frame_size e = length (spelling e)

-- the frames of pending entries, the last perhaps cut
pub record Torn (rest : List ℕ) (pending : List Entry) : Type 0 where
  pub front : List Entry
  pub back : List Entry
  pub kept : ℕ
  pub split : pending ≡ front ++ back
  pub one : length back ≤ 1
  pub bytes : rest ≡ frames front ++ take kept (frames back)

abbrev pub Tail : Bool → List ℕ → List Entry → Type 0
Tail false rest pending = rest ≡ frames pending
Tail true rest pending = Torn rest pending

-- the synced bytes are the frames of the committed entries, and the written bytes go on with frames of pending ones
pub record Holds (x : File) (log : Log) : Type 0 where
  pub unsealed : x.sealed ≡ false
  pub synced : x.synced ≡ length (frames log.committed)
  pub rest : List ℕ
  pub bytes : x.bytes ≡ frames log.committed ++ rest
  pub tail : Tail log.broken rest log.pending

pub record IsLog (o : Option File) (log : Log) : Type 0 where
  pub file : File
  pub there : o ≡ Some file
  pub holds : Holds file log

-- what a writer keeps in memory: numbers, the lengths of pending frames in bytes, and whether a call failed
pub record LogValue : Type 0 where
  pub server : ℕ
  pub number : ℕ
  pub committed : ℕ
  pub synced : ℕ
  pub lengths : List ℕ
  pub broken : Bool

abbrev pub writer_of : Log → LogValue
writer_of log = record { server = log.server; number = log.number; committed = length log.committed; synced = length (frames log.committed); lengths = map frame_size log.pending; broken = log.broken }

abbrev pub used_of : LogValue → ℕ
used_of w = w.synced + sum w.lengths

-- the writer and its file stand for the log
pub record IsWriter (c : Contents) (w : LogValue) (log : Log) : Type 0 where
  pub same : w ≡ writer_of log
  pub file : IsLog (c.files wal (log_name log.server log.number)) log

abbrev pub Stands : Contents → LogValue → Type 0
Stands c w = (log : Log) × IsWriter c w log
