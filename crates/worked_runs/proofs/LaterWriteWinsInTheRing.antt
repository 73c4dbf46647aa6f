-- The run is legal: in a ring a later write of c to a cell that a wrote wins in all three clusters.
use Rattle.std.specs.Prelude.{refl}
use Rattle.rep_model.specs.Keyed.{given}
use Rattle.rep_model.specs.See.{see}
use Rattle.rep_model.specs.State.{Ring}
use Rattle.rep_model.specs.QueueEvents.{deliver_plan, send_plan, confirm_plan}
use Rattle.rep_model.specs.RegionEvents.{open_end_plan, open_begin_plan, table_plan}
use Rattle.rep_model.specs.LogEvents.{put_plan, server_plan, sync_plan}
use Rattle.rep_model.specs.PeerEvents.{peer_plan}
use Rattle.rep_model.specs.Reads.{show_plan}
use Rattle.rep_model.specs.Runs.{after, IsLegalOn}
use Rattle.worked_runs.proofs.Legal.{legal_on}
use Rattle.worked_runs.specs.LaterWriteWinsInTheRing.{later_write_wins_in_the_ring}

pub it_is_legal : IsLegalOn Ring later_write_wins_in_the_ring
unfolding later_write_wins_in_the_ring given see after server_plan table_plan open_begin_plan open_end_plan peer_plan put_plan sync_plan send_plan deliver_plan confirm_plan show_plan
it_is_legal = legal_on Ring later_write_wins_in_the_ring refl refl
