use Rattle.std.proofs.Common.{rules, None}
use Rattle.rep_vault.proofs.Maps.{puts_at, sets_file}
use Rattle.rep_vault.proofs.folder.Folder.remove.Goals as goal

pub returns-clause-does : goal.returns-clause-does
returns-clause-does c =
    let puts = puts_at c.args.name.now None c.args.self.now.files c.remove.new.self c.remove.ensures.updates in
    (search rules, sets_file c.args.name.now None c.args.self.now _ puts)
