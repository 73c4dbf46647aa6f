-- A server's current log, with its pending entries and the tickets of puts among them.
use Rattle.std.specs.Prelude.{ℕ, ◌≡◌, List, [], ◌∷◌, ◌++◌, Option, Some, None}
use Rattle.rep_types.specs.declared.entry.Entry.{Entry}
use Rattle.rep_vault.specs.Contents.{Contents}
use Rattle.wal_roll.specs.Log.{Log, LogValue, IsWriter}

pub record HostValue : Type 0 where
  pub log : LogValue
  pub pending : List Entry
  pub tickets : List ℕ

-- the writer and its file stand for the log, and the host keeps the log's pending entries
pub record IsHost (c : Contents) (h : HostValue) (log : Log) : Type 0 where
  pub writer : IsWriter c h.log log
  pub pending : h.pending ≡ log.pending

abbrev pub Stands : Contents → HostValue → Type 0
Stands c h = (log : Log) × IsHost c h log

abbrev pub with_ticket : Option ℕ → List ℕ → List ℕ
with_ticket None tickets = tickets
with_ticket (Some ticket) tickets = tickets ++ ticket ∷ []
