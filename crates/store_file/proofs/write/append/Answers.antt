use Rattle.wal_roll.proofs.Logs.{only_file}
use Rattle.store_file.specs.Stored.{run}
use Rattle.store_file.proofs.Written.{appended}
use Rattle.store_file.proofs.write.append.Goals as goal

pub returns-in-Done-clause-does : goal.returns-in-Done-clause-does
returns-in-Done-clause-does g c =
    let does = c.in-Done.ensures.does in
    appended c.args.name.now c.args.bytes.now does.0 _ _ c.requires does.1 does.2

pub returns-in-Done-clause-frame : goal.returns-in-Done-clause-frame
returns-in-Done-clause-frame g c = only_file run c.args.name.now _ _ _ c.in-Done.ensures.does.2

pub returns-in-NotDone-clause-frame : goal.returns-in-NotDone-clause-frame
returns-in-NotDone-clause-frame g c = only_file run c.args.name.now _ _ _ c.in-NotDone.ensures.does.3
