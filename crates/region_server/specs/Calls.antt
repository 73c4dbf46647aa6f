-- What each call of a host does to its log and its lists.
use Rattle.std.specs.Prelude.{ℕ, ◌+◌, ◌<◌, ◌≤◌, ◌≡◌, true, false, [], ◌∷◌, length, take, Option, Result, Ok, Err}
use Rattle.rep_types.specs.declared.state.Call.TheVariants as call
use Rattle.rep_types.specs.declared.entry.Entry.{Entry}
use Rattle.rep_vault.specs.Contents.{Contents}
use Rattle.wal_roll.specs.declared.error.LogError.{LogError}
use Rattle.wal_roll.specs.declared.error.LogError.TheVariants.{Broken, NeedRoll, StoreFault, Memory}
use Rattle.wal_roll.specs.Log.{Log, wal, log_name, used_of, frame_size, writer_of}
use Rattle.wal_roll.specs.Steps.{pushed, broken_by, settled}
use Rattle.wal_roll.specs.Kept.{IsSealed, kept_log}
use Rattle.region_server.specs.declared.host.Committed.{Committed}
use Rattle.region_server.specs.declared.host.Kept.{Kept}
use Rattle.region_server.specs.Host.{HostValue, IsHost, with_ticket}

abbrev pub Accepts : {T : Type 0} → Entry → Option ℕ → Log → HostValue → Contents → HostValue → Contents → Result T LogError → Type 0
Accepts e ticket log h old h' new (Ok _) = (log.broken ≡ false) × (used_of h.log + frame_size e ≤ 65536) × IsHost new h' (pushed e log) × (h'.tickets ≡ with_ticket ticket h.tickets)
Accepts e ticket log h old h' new (Err Broken) = (log.broken ≡ true) × (h' ≡ h) × (new ≡ old)
Accepts e ticket log h old h' new (Err (NeedRoll used need limit)) = (log.broken ≡ false) × (used ≡ used_of h.log) × (need ≡ frame_size e) × (limit ≡ 65536) × (limit < used + need) × (h' ≡ h) × (new ≡ old)
Accepts e ticket log h old h' new (Err (StoreFault kind count)) = (log.broken ≡ false) × (used_of h.log + frame_size e ≤ 65536) × (kind ≡ call.Append) × IsHost new h' (broken_by (e ∷ []) log) × (h'.tickets ≡ h.tickets)
Accepts e ticket log h old h' new (Err Memory) = (h' ≡ h) × (new ≡ old)

abbrev pub Commits : Log → HostValue → Contents → HostValue → Contents → Result Committed LogError → Type 0
Commits log h old h' new (Ok done) = (log.broken ≡ false) × (done.entries ≡ h.pending) × (done.tickets ≡ h.tickets) × IsHost new h' (settled log) × (h'.tickets ≡ [])
Commits log h old h' new (Err Broken) = (log.broken ≡ true) × (h' ≡ h) × (new ≡ old)
Commits log h old h' new (Err (NeedRoll used need limit)) = ⊥
Commits log h old h' new (Err (StoreFault kind count)) = (log.broken ≡ false) × (kind ≡ call.Sync) × IsHost new h' (broken_by [] log) × (h'.tickets ≡ h.tickets)
Commits log h old h' new (Err Memory) = (log.broken ≡ false) × (h' ≡ h) × (new ≡ old)

-- the file is sealed, and nothing is pending
abbrev pub Seals : Log → HostValue → Contents → HostValue → Contents → Result Kept LogError → Type 0
Seals log h old h' new (Ok kept) =
    let n = length kept.entries in
    (kept.entries ≡ take n h.pending) × (n + kept.dropped ≡ length h.pending) × (h' ≡ record { log = writer_of (kept_log n log); pending = []; tickets = h.tickets }) × IsSealed (new.files wal (log_name log.server log.number)) log n
Seals log h old h' new (Err Broken) = ⊥
Seals log h old h' new (Err (NeedRoll used need limit)) = ⊥
Seals log h old h' new (Err (StoreFault kind count)) = (kind ≡ call.Seal) × (h' ≡ h) × (new ≡ old)
Seals log h old h' new (Err Memory) = (h' ≡ h) × (new ≡ old)
