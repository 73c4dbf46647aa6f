use Rattle.rep_vault.proofs.Slots.{all_made}
use Rattle.rep_vault.proofs.records.put_records.Goals as goal

pub returns-clause-ok : goal.returns-clause-ok
returns-clause-ok c =
    let filled = rw c.in_ok-copies.ensures at c.fill.ensures in
    all_made c.args.changes.now _ c.make_slots.new.records c.fill.new.records _ c.in_ok-make_slots.ensures.kept filled c.drop_free.ensures
