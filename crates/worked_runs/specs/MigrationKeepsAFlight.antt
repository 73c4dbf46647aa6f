-- A queue that another server claimed is migrated while its second flight is out: the owner, the flight and what is recorded stay.
use Rattle.std.specs.Prelude.{List, [], ◌∷◌, codes}
use Rattle.rep_types.specs.declared.ids.Cluster.TheVariants.{A, B}
use Rattle.rep_types.specs.declared.state.Kind.TheVariants as kind
use Rattle.rep_types.specs.declared.event.Event.TheVariants as event
use Rattle.rep_types.specs.declared.refusal.Refusal.TheVariants as refusal
use Rattle.rep_types.specs.declared.reply.Reply.TheVariants as reply
use Rattle.rep_types.specs.declared.record.Record.{Record}
use Rattle.worked_runs.specs.Openings.{does, write}

unfoldable pub migration_keeps_a_flight : List Record
migration_keeps_a_flight =
    does (event.OldQueues A) reply.Done
    ∷ does (event.Server A 1) reply.Done
    ∷ does (event.Server A 2) reply.Done
    ∷ does (event.Server B 1) reply.Done
    ∷ does (event.Table A (codes "t") (record { name = (codes "f"); scope = 1 } ∷ [])) (reply.Made 1)
    ∷ does (event.Table B (codes "t") (record { name = (codes "f"); scope = 1 } ∷ [])) (reply.Made 1)
    ∷ does (event.OpenBegin A 1 1) (reply.Begun 1)
    ∷ does (event.OpenEnd A 1) (reply.Marked 1 [])
    ∷ does (event.OpenBegin B 1 1) (reply.Begun 1)
    ∷ does (event.OpenEnd B 1) (reply.Marked 1 [])
    ∷ does (event.Peer A 1 kind.Plain ((codes "t") ∷ [])) reply.Done
    ∷ does (event.Put A (codes "t") (codes "r1") (write 10 (codes "v"))) (reply.Accepted 1 2 1)
    ∷ does (event.Sync A 1) (reply.Synced 1 (1 ∷ []))
    ∷ does (event.Send A 1 1 25) (reply.Sent 1 1 1)
    ∷ does (event.Deliver 1) (reply.All 1 [])
    ∷ does (event.Confirm 1) (reply.Recorded 1)
    ∷ does (event.Put A (codes "t") (codes "r2") (write 11 (codes "w"))) (reply.Accepted 1 3 2)
    ∷ does (event.Sync A 1) (reply.Synced 1 (2 ∷ []))
    ∷ does (event.Crash A 1) (reply.Crashed [])
    ∷ does (event.Seal A 1) (reply.Sealed 0 0)
    ∷ does (event.Claim A 2 1 1) reply.Done
    ∷ does (event.Send A 1 1 25) (reply.Sent 2 1 1)
    ∷ does (event.MigrateBegin A) reply.Done
    ∷ does (event.Migrate A 1 1) reply.Done
    ∷ does (event.Send A 1 1 25) (reply.Refused (refusal.Outstanding 2))
    ∷ does (event.Claim A 2 1 1) (reply.Refused (refusal.Owned 2))
    ∷ does (event.Deliver 2) (reply.All 1 [])
    ∷ does (event.Confirm 2) (reply.Recorded 1)
    ∷ does (event.Send A 1 1 25) (reply.Refused refusal.Empty)
    ∷ does (event.MigrateEnd A) (reply.Refused (refusal.Unmigrated 1 2))
    ∷ does (event.Migrate A 1 2) reply.Done
    ∷ does (event.MigrateEnd A) reply.Done
    ∷ []
