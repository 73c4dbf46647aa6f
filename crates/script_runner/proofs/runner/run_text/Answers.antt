use Rattle.std.proofs.Common.{arith}
use Rattle.script_text.proofs.Scripts.{commands-few}
use Rattle.script_runner.proofs.Scripted.{script-served}
use Rattle.script_runner.proofs.runner.run_text.Goals as goal

pub run_commands-requires-clause-served : goal.run_commands-requires-clause-served
run_commands-requires-clause-served g c =
    rw c.as_slice.ensures (script-served _ _ c.in-Ok.ensures.commands)

pub run_commands-requires-clause-room : goal.run_commands-requires-clause-room
run_commands-requires-clause-room g c =
    let few = commands-few c.args.text.now c.in-Ok.commands c.in-Ok.ensures.commands in
    let short = c.requires in
    rw c.as_slice.ensures (omega (arith, few, short))
