-- What each call of a writer does to its log.
use Rattle.std.specs.Prelude.{ℕ, ◌+◌, ◌<◌, ◌≤◌, ◌≡◌, true, false, List, [], ◌∷◌, ◌++◌, length, IfSome, Result, Ok, Err}
use Rattle.rep_types.specs.declared.state.Call.TheVariants as call
use Rattle.rep_types.specs.declared.entry.Entry.{Entry}
use Rattle.rep_vault.specs.Contents.{Contents, empty_file}
use Rattle.wal_roll.specs.declared.error.LogError.{LogError}
use Rattle.wal_roll.specs.declared.error.LogError.TheVariants.{Broken, NeedRoll, StoreFault, Memory}
use Rattle.wal_roll.specs.Log.{Log, LogValue, IsWriter, wal, log_name, used_of, frame_size}

-- that file alone may differ
pub record OnlyFile (f n : List ℕ) (old new : Contents) : Type 0 where
  pub others : (g m : List ℕ) → (f ≡ g → n ≡ m → ⊥) → new.files g m ≡ old.files g m
  pub stands : new.stands ≡ old.stands
  pub records : new.records ≡ old.records

-- the folder stands, and a file of the log's name, if any, is empty and not sealed
pub record MayCreate (c : Contents) (server number : ℕ) : Type 0 where
  pub stands : c.stands wal ≡ true
  pub free : IfSome (c.files wal (log_name server number)) (λ x. x ≡ empty_file)

abbrev pub new_log : ℕ → ℕ → Log
new_log server number = record { server = server; number = number; committed = []; pending = []; broken = false }

abbrev pub pushed : Entry → Log → Log
pushed e log = record log { pending = log.pending ++ e ∷ [] }

-- a call failed, which left these entries last on the pending list
abbrev pub broken_by : List Entry → Log → Log
broken_by es log = record log { pending = log.pending ++ es; broken = true }

abbrev pub settled : Log → Log
settled log = record log { committed = log.committed ++ log.pending; pending = [] }

abbrev pub Created : ℕ → ℕ → Contents → Contents → Result LogValue LogError → Type 0
Created server number old new (Ok w) = IsWriter new w (new_log server number)
Created server number old new (Err Broken) = ⊥
Created server number old new (Err (NeedRoll used need limit)) = ⊥
Created server number old new (Err (StoreFault kind count)) = (kind ≡ call.Create) × (new ≡ old)
Created server number old new (Err Memory) = new ≡ old

abbrev pub Appended : {T : Type 0} → Entry → Log → LogValue → Contents → LogValue → Contents → Result T LogError → Type 0
Appended e log w old w' new (Ok _) = (log.broken ≡ false) × (used_of w + frame_size e ≤ 65536) × IsWriter new w' (pushed e log)
Appended e log w old w' new (Err Broken) = (log.broken ≡ true) × (w' ≡ w) × (new ≡ old)
Appended e log w old w' new (Err (NeedRoll used need limit)) = (log.broken ≡ false) × (used ≡ used_of w) × (need ≡ frame_size e) × (limit ≡ 65536) × (limit < used + need) × (w' ≡ w) × (new ≡ old)
Appended e log w old w' new (Err (StoreFault kind count)) = (log.broken ≡ false) × (used_of w + frame_size e ≤ 65536) × (kind ≡ call.Append) × IsWriter new w' (broken_by (e ∷ []) log)
Appended e log w old w' new (Err Memory) = (log.broken ≡ false) × (used_of w + frame_size e ≤ 65536) × (w' ≡ w) × (new ≡ old)

abbrev pub Synced : Log → LogValue → Contents → LogValue → Contents → Result ℕ LogError → Type 0
Synced log w old w' new (Ok n) = (log.broken ≡ false) × (n ≡ length log.pending) × IsWriter new w' (settled log)
Synced log w old w' new (Err Broken) = (log.broken ≡ true) × (w' ≡ w) × (new ≡ old)
Synced log w old w' new (Err (NeedRoll used need limit)) = ⊥
Synced log w old w' new (Err (StoreFault kind count)) = (log.broken ≡ false) × (kind ≡ call.Sync) × IsWriter new w' (broken_by [] log)
Synced log w old w' new (Err Memory) = (log.broken ≡ false) × (w' ≡ w) × (new ≡ old)
