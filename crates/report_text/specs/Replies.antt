-- What is printed of a reply.
use Rattle.std.specs.Prelude.{ℕ, List, ◌++◌, codes, length, Option, Some, None}
use Rattle.std.specs.Fmt.{decimal}
use Rattle.rep_types.specs.Words.{cluster_text}
use Rattle.rep_types.specs.declared.entry.EntryId.{EntryId}
use Rattle.rep_types.specs.declared.ids.Cluster.{Cluster}
use Rattle.rep_types.specs.declared.refusal.Needer.{Needer}
use Rattle.rep_types.specs.declared.refusal.Needer.TheVariants as needer
use Rattle.rep_types.specs.declared.refusal.Refusal.{Refusal}
use Rattle.rep_types.specs.declared.refusal.Refusal.TheVariants as refusal
use Rattle.rep_types.specs.declared.reply.Cause.{Cause}
use Rattle.rep_types.specs.declared.reply.Cause.TheVariants as cause
use Rattle.rep_types.specs.declared.reply.Reply.{Reply}
use Rattle.rep_types.specs.declared.reply.Reply.TheVariants as reply
use Rattle.rep_types.specs.declared.state.Call.{Call}
use Rattle.rep_types.specs.declared.state.Phase.{Phase}
use Rattle.rep_types.specs.declared.state.SyncState.{SyncState}
use Rattle.report_text.specs.Lists.{numbers_text}
use Rattle.report_text.specs.Words.{call_text, phase_text, place_text, state_text}

abbrev pub acks_text : List ℕ → List ℕ
acks_text acks = codes " acks=" ++ numbers_text acks

abbrev pub doubtful_text : List ℕ → List ℕ
doubtful_text doubtful = codes " doubtful=" ++ numbers_text doubtful

abbrev pub wrongstate_text : SyncState → Phase → List ℕ
wrongstate_text have phase = codes "wrongstate have=" ++ state_text have ++ codes " phase=" ++ phase_text phase

abbrev pub needroll_text : ℕ → ℕ → ℕ → List ℕ
needroll_text server used need = codes "needroll server=" ++ decimal server ++ codes " used=" ++ decimal used ++ codes " need=" ++ decimal need ++ codes " limit=65536"

abbrev pub storefault_text : Cluster → Call → ℕ → List ℕ
storefault_text store call count = codes "storefault store=" ++ cluster_text store ++ codes " call=" ++ call_text call ++ codes " count=" ++ decimal count

-- what stops a delivery
abbrev pub cause_text : Cause → List ℕ
cause_text (cause.WrongState have phase) = wrongstate_text have phase
cause_text (cause.NotServing r) = codes "notserving region=" ++ decimal r
cause_text (cause.Broken log) = codes "broken log=" ++ decimal log
cause_text (cause.NeedRoll s used need) = needroll_text s used need
cause_text (cause.StoreFault store call count) = storefault_text store call count

abbrev pub needed_text : Needer → List ℕ
needed_text (needer.Peer p) = codes "needed by=peer:" ++ decimal p
needed_text (needer.Region r) = codes "needed by=region:" ++ decimal r

abbrev pub entry_text : EntryId → List ℕ
entry_text e = cluster_text e.cluster ++ codes "/" ++ decimal e.region ++ codes "/" ++ decimal e.seq

abbrev pub stale_text : Option ℕ → List ℕ
stale_text (Some flight) = codes "stale now=" ++ decimal flight
stale_text None = codes "stale now=none"

abbrev pub refusal_text : Refusal → List ℕ
refusal_text refusal.NoServer = codes "noserver"
refusal_text refusal.NoRegion = codes "noregion"
refusal_text refusal.NoPeer = codes "nopeer"
refusal_text refusal.NoTable = codes "notable"
refusal_text refusal.NoFamily = codes "nofamily"
refusal_text refusal.NoFlight = codes "noflight"
refusal_text refusal.NoQueue = codes "noqueue"
refusal_text refusal.NoSync = codes "nosync"
refusal_text refusal.NoLog = codes "nolog"
refusal_text refusal.Exists = codes "exists"
refusal_text refusal.TooMany = codes "toomany limit=4096"
refusal_text (refusal.Dead s) = codes "dead server=" ++ decimal s
refusal_text (refusal.Alive s) = codes "alive server=" ++ decimal s
refusal_text refusal.Sealed = codes "sealed"
refusal_text (refusal.NotSealed s) = codes "notsealed server=" ++ decimal s
refusal_text (refusal.OwnerDead s) = codes "ownerdead by=" ++ decimal s
refusal_text (refusal.WrongPlace have) = codes "wrongplace have=" ++ place_text have
refusal_text refusal.NotClosed = codes "notclosed"
refusal_text refusal.BadKey = codes "badkey"
refusal_text refusal.NotAdjacent = codes "notadjacent"
refusal_text (refusal.TooLong n) = codes "toolong have=" ++ decimal n
refusal_text refusal.Standby = codes "standby"
refusal_text (refusal.NotServing r) = codes "notserving region=" ++ decimal r
refusal_text (refusal.Broken log) = codes "broken log=" ++ decimal log
refusal_text (refusal.NeedRoll s used need) = needroll_text s used need
refusal_text (refusal.Pending n) = codes "pending count=" ++ decimal n
refusal_text refusal.Fenced = codes "fenced"
refusal_text refusal.NotDual = codes "notdual"
refusal_text (refusal.Needed by) = needed_text by
refusal_text refusal.ScopeZero = codes "scopezero"
refusal_text refusal.IsSync = codes "issync"
refusal_text refusal.IsSerial = codes "isserial"
refusal_text refusal.SyncTaken = codes "synctaken"
refusal_text refusal.SyncDiffers = codes "syncdiffers"
refusal_text refusal.Disabled = codes "disabled"
refusal_text (refusal.Outstanding f) = codes "outstanding flight=" ++ decimal f
refusal_text refusal.Empty = codes "empty"
refusal_text (refusal.Held need) = codes "held need=" ++ entry_text need
refusal_text (refusal.Stale now) = stale_text now
refusal_text (refusal.NotDelivered f) = codes "notdelivered flight=" ++ decimal f
refusal_text (refusal.Owned s) = codes "owned by=" ++ decimal s
refusal_text (refusal.WrongState have phase) = wrongstate_text have phase
refusal_text (refusal.NotReady s) = codes "notready server=" ++ decimal s
refusal_text refusal.NoRemoteFolder = codes "noremotefolder"
refusal_text refusal.NotOld = codes "notold"
refusal_text refusal.NotMixed = codes "notmixed"
refusal_text refusal.Migrated = codes "migrated"
refusal_text (refusal.Unmigrated p s) = codes "unmigrated queue=" ++ decimal p ++ codes "/" ++ decimal s

-- the reply without the cells that it shows
abbrev pub reply_text : Reply → List ℕ
reply_text reply.Done = codes "ok"
reply_text (reply.Made r) = codes "ok region=" ++ decimal r
reply_text (reply.Begun b) = codes "ok barrier=" ++ decimal b
reply_text (reply.Marked q acks) = codes "ok seq=" ++ decimal q ++ acks_text acks
reply_text (reply.Accepted r q k) = codes "ok region=" ++ decimal r ++ codes " seq=" ++ decimal q ++ codes " ticket=" ++ decimal k
reply_text (reply.Shown cells) = codes "ok cells=" ++ decimal (length cells)
reply_text (reply.Synced n acks) = codes "ok commits=" ++ decimal n ++ acks_text acks
reply_text (reply.Rolled l n m doubtful) = codes "ok log=" ++ decimal l ++ codes " commits=" ++ decimal n ++ codes " dropped=" ++ decimal m ++ doubtful_text doubtful
reply_text (reply.Crashed doubtful) = codes "ok" ++ doubtful_text doubtful
reply_text (reply.Sealed n m) = codes "ok commits=" ++ decimal n ++ codes " dropped=" ++ decimal m
reply_text (reply.Split l h) = codes "ok low=" ++ decimal l ++ codes " high=" ++ decimal h
reply_text (reply.Swept l) = codes "ok log=" ++ decimal l
reply_text (reply.Sent f n m) = codes "ok flight=" ++ decimal f ++ codes " entries=" ++ decimal n ++ codes " forms=" ++ decimal m
reply_text (reply.All n acks) = codes "all arrived=" ++ decimal n ++ acks_text acks
reply_text (reply.Stopped i acks why) = codes "stopped index=" ++ decimal i ++ acks_text acks ++ codes " " ++ cause_text why
reply_text (reply.Recorded n) = codes "ok recorded=" ++ decimal n
reply_text (reply.Mirrored acks) = codes "ok" ++ acks_text acks
reply_text (reply.Changed acks doubtful) = codes "ok" ++ acks_text acks ++ doubtful_text doubtful
reply_text (reply.Replayed s l n) = codes "ok server=" ++ decimal s ++ codes " log=" ++ decimal l ++ codes " entries=" ++ decimal n
reply_text (reply.StoreFault store call count) = storefault_text store call count
reply_text (reply.Refused why) = refusal_text why
