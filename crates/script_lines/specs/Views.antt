-- The lines of views of a state: of its queues, of its regions, and the status line.
use Rattle.std.specs.Prelude.{ℕ, List, [], flat_map}
use Rattle.rep_types.specs.declared.ids.Cluster.{Cluster}
use Rattle.rep_types.specs.declared.view.QueueView.{QueueView}
use Rattle.rep_model.specs.Keyed.{given}
use Rattle.rep_model.specs.State.{of}
use Rattle.rep_model.specs.declared.machine.Machine.{Machine}
use Rattle.pair_core.specs.Views.{queue_seen, region_seen, status_seen}
use Rattle.report_text.specs.QueueLine.{queue_text}
use Rattle.report_text.specs.RegionLine.{region_text}
use Rattle.report_text.specs.StatusLine.{status_text}
use Rattle.script_text.specs.declared.command.Command.{Command}
use Rattle.script_text.specs.declared.command.Command.TheVariants as command
use Rattle.script_text.specs.Drains.{numbers}

-- the line of a peer's queue for the logs of a server, where one is seen
abbrev pub queue_shown : Cluster → Machine → ℕ → ℕ → List ℕ
queue_shown c m p s = given (queue_seen p s (of c m)) [] (λ (v : QueueView). queue_text c p s v)

-- the lines of a peer's queues by the server's number
abbrev pub peer_text : Cluster → Machine → ℕ → List ℕ
peer_text c m p = flat_map (queue_shown c m p) (numbers 64)

-- by the peer's number
abbrev pub queues_text : Cluster → Machine → List ℕ
queues_text c m = flat_map (peer_text c m) (numbers 4)

-- the line of the region of this number, where there is one
abbrev pub region_shown : Cluster → Machine → ℕ → List ℕ
region_shown c m r = given (region_seen c r (of c m)) [] region_text

-- by the region's number
abbrev pub regions_text : Cluster → Machine → List ℕ
regions_text c m = flat_map (region_shown c m) (numbers 4096)

-- the lines of a view of this state, after so many records; other commands have none
abbrev pub view_text : Command → ℕ → Machine → List ℕ
view_text (command.Queues c) records m = queues_text c m
view_text (command.Regions c) records m = regions_text c m
view_text command.Status records m = status_text (status_seen records m)
view_text _ records m = []
