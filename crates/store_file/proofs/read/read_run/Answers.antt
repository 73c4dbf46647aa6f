use Rattle.std.proofs.Common.{◌<◌, ◌-◌, ◌^◌, length, ◌∙◌, arith}
use Rattle.store_file.proofs.Written.{read_so}
use Rattle.store_file.proofs.read.read_run.Goals as goal

pub returns-in-Ok-clause-does : goal.returns-in-Ok-clause-does
returns-in-Ok-clause-does g c =
    let does = c.in-Ok.ensures.does in
    let few : length c.as_slice.result.now < 2 ^ 64 - 1 = omega arith in
    read_so c.args.name.now does.0 c.as_slice.result.now _ c.decode_run.result does.1 (c.as_slice.ensures ∙ does.2) few c.decode_run.ensures.does
