use Rattle.wal_roll.proofs.Logs.{only_file}
use Rattle.store_file.specs.Stored.{run}
use Rattle.store_file.proofs.Written.{synced}
use Rattle.store_file.proofs.write.sync.Goals as goal

pub returns-in-Done-clause-does : goal.returns-in-Done-clause-does
returns-in-Done-clause-does g c = λ x is_open.
    let does = c.in-Done.ensures.does in
    synced c.args.name.now x does.0 _ _ is_open does.1 does.2

pub returns-in-Done-clause-frame : goal.returns-in-Done-clause-frame
returns-in-Done-clause-frame g c = only_file run c.args.name.now _ _ _ c.in-Done.ensures.does.2
