use Rattle.std.proofs.Common.{rules, Some}
use Rattle.rep_vault.proofs.Maps.{puts_key, sets_new_file}
use Rattle.rep_vault.proofs.folder.Folder.create.Goals as goal

pub returns-in-Ok-insert-clause-does : goal.returns-in-Ok-insert-clause-does
returns-in-Ok-insert-clause-does c =
    let puts = puts_key c.args.name.now c.in-Ok.key (Some c.new.result) c.args.self.now.files c.insert.new.self c.in-Ok.ensures.ok c.in-Ok-insert.ensures.updates in
    (search rules, sets_new_file c.args.name.now c.new.result _ c.args.self.now _ c.new.ensures puts)
