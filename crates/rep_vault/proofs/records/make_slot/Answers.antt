use Rattle.std.proofs.Common.{rules, None, Some}
use Rattle.rep_vault.proofs.Maps.{puts_key}
use Rattle.rep_vault.proofs.Slots.{made, still}
use Rattle.rep_vault.proofs.records.make_slot.Goals as goal

pub returns-clause-slots : goal.returns-clause-slots
returns-clause-slots c = still c.args.key.now None c.args.records.now c.insert.new.self (puts_key c.args.key.now c.in_ok-name.name (Some None) c.args.records.now c.insert.new.self c.in_ok-name.ensures.ok c.in_ok-insert.ensures.updates)

pub returns-clause-kept : goal.returns-clause-kept
returns-clause-kept c = made c.args.key.now c.args.records.now c.insert.new.self (search rules) (puts_key c.args.key.now c.in_ok-name.name (Some None) c.args.records.now c.insert.new.self c.in_ok-name.ensures.ok c.in_ok-insert.ensures.updates)
