use Rattle.std.proofs.Common.{rules, None}
use Rattle.rep_vault.proofs.Maps.{puts_at}
use Rattle.rep_vault.proofs.Slots.{dropped}
use Rattle.rep_vault.proofs.records.drop_one.Goals as goal

pub returns : goal.returns
returns c = dropped c.args.key.now c.args.records.now c.remove.new.self (search rules) (puts_at c.args.key.now None c.args.records.now c.remove.new.self c.remove.ensures.updates)
