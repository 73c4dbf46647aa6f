-- Which commands are performed: views, plans for the stores, and those whose events the two clusters serve.
use Rattle.std.specs.Prelude.{nat_le, Bool, true, false, ◌&&◌}
use Rattle.rep_model.specs.State.{Pair}
use Rattle.rep_model.specs.Words.{is_paired, is_worded}
use Rattle.pair_core.specs.Served as pair
use Rattle.script_text.specs.declared.command.Command.{Command}
use Rattle.script_text.specs.declared.command.Command.TheVariants as command

abbrev pub is_served : Command → Bool
is_served (command.Single e) = pair.is_served e && is_worded Pair e
is_served (command.Open c r s) = is_paired c
is_served (command.Close c r) = is_paired c
is_served (command.Move c r s) = is_paired c
is_served (command.Ship c p s) = is_paired c
is_served (command.SyncAll c) = is_paired c
is_served (command.Queues c) = is_paired c
is_served (command.Regions c) = is_paired c
is_served command.Status = true
is_served (command.Fail c call nth bytes) = is_paired c && nat_le 1 nth
is_served (command.Keep c bytes) = is_paired c
is_served _ = false
