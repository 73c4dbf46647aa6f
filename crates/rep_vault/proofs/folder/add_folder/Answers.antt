use Rattle.std.proofs.Common.{Some}
use Rattle.rep_vault.proofs.Maps.{puts_key, adds_folder}
use Rattle.rep_vault.proofs.folder.add_folder.Goals as goal

pub returns-clause-ok : goal.returns-clause-ok
returns-clause-ok c =
    let puts = puts_key c.args.folder.now c.in_ok-key.key (Some c.new.result) c.args.folders.now c.insert.new.self c.in_ok-key.ensures.ok c.in_ok-insert.ensures.updates in
    adds_folder c.args.folder.now c.new.result c.args.folders.now c.insert.new.self c.new.ensures c.requires puts
