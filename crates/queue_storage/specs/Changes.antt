-- The records that change with several queues.
use Rattle.std.specs.Prelude.{ℕ, ◌==◌, ◌&&◌, Bool, List, ◌++◌, None, filter, map}
use Rattle.rep_model.specs.FormEvents.{is_listed}
use Rattle.rep_vault.specs.declared.store.Change.{Change}
use Rattle.last_ids.specs.declared.ids.LastId.{LastId}
use Rattle.queue_storage.specs.declared.record.QueueRecord.{QueueRecord}
use Rattle.queue_storage.specs.Ids.{ids_of}
use Rattle.queue_storage.specs.Queues.{Storage, is_of, logged}
use Rattle.queue_storage.specs.Texts.{queue_key, last_key, queue_change}

-- its record lists the logs of that server
abbrev pub lists_logs : ℕ → QueueRecord → Bool
lists_logs s q = (q.server == s) && is_listed q.form

-- a server's log is listed in the records of its queues that list logs
abbrev pub log_changes : ℕ → ℕ → List QueueRecord → List Change
log_changes s log queues = map queue_change (filter (lists_logs s) (map (logged s log) queues))

-- no record stands any more
abbrev pub queue_dropped : QueueRecord → Change
queue_dropped q = record { key = queue_key q.peer q.server; value = None }

abbrev pub last_dropped : ℕ → LastId → Change
last_dropped p x = record { key = last_key p x.region; value = None }

-- the records of a peer's queues and of its last pushed ids go
abbrev pub peer_dropped : ℕ → Storage → List Change
peer_dropped p s = map queue_dropped (filter (is_of p) s.queues) ++ map (last_dropped p) (ids_of p s.ids)
