-- The run is legal: a queue that another server claimed is migrated while its second flight is out.
use Rattle.std.specs.Prelude.{refl}
use Rattle.rep_model.specs.Keyed.{given}
use Rattle.rep_model.specs.QueueEvents.{deliver_plan, send_plan, claim_plan, confirm_plan}
use Rattle.rep_model.specs.RegionEvents.{open_end_plan, open_begin_plan, table_plan}
use Rattle.rep_model.specs.LogEvents.{put_plan, server_plan, sync_plan, crash_plan, seal_plan}
use Rattle.rep_model.specs.FormEvents.{migrate_begin_plan, migrate_end_plan, migrate_plan, old_queues_plan}
use Rattle.rep_model.specs.PeerEvents.{peer_plan}
use Rattle.rep_model.specs.Runs.{after, IsLegal}
use Rattle.worked_runs.proofs.Legal.{legal}
use Rattle.worked_runs.specs.MigrationKeepsAFlight.{migration_keeps_a_flight}

pub it_is_legal : IsLegal migration_keeps_a_flight
unfolding migration_keeps_a_flight given after server_plan open_end_plan put_plan sync_plan send_plan deliver_plan table_plan peer_plan open_begin_plan confirm_plan crash_plan seal_plan claim_plan old_queues_plan migrate_begin_plan migrate_plan migrate_end_plan
it_is_legal = legal migration_keeps_a_flight refl refl
