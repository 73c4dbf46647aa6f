use Rattle.rep_types.specs.declared.state.Call.TheVariants.{Put}
use Rattle.rep_vault.proofs.Runs.{struck_counted, struck_follows, passed_counted, passed_follows}
use Rattle.rep_vault.proofs.Contents.{records_kept, records_made}
use Rattle.rep_vault.proofs.memory.MemVaultVault.put_all.Goals as goal

pub returns-in-Err-clause-does : goal.returns-in-Err-clause-does
returns-in-Err-clause-does c =
    records_kept c.args.self.now.folders c.args.self.now.records c.put_records.new.records c.in-Err.ensures.err

pub returns-in-Ok-clause-does : goal.returns-in-Ok-clause-does
returns-in-Ok-clause-does c =
    records_made c.args.changes.now c.args.self.now.folders c.args.self.now.records c.put_records.new.records c.in-Ok.ensures.ok

pub returns-then-strikes-clause-counted : goal.returns-then-strikes-clause-counted
returns-then-strikes-clause-counted c =
    struck_counted Put c.args.self.now.plans c.strikes.new.self _ c.strikes.ensures c.if-strikes.true

pub returns-then-strikes-clause-follows : goal.returns-then-strikes-clause-follows
returns-then-strikes-clause-follows c =
    struck_follows Put c.args.self.now.plans c.strikes.new.self _ c.strikes.ensures c.if-strikes.true

pub returns-in-Ok-clause-counted : goal.returns-in-Ok-clause-counted
returns-in-Ok-clause-counted c =
    passed_counted _ Put c.args.self.now.plans c.strikes.new.self c.pass.new.self _ c.strikes.ensures c.if-strikes.false c.pass.ensures

pub returns-in-Ok-clause-follows : goal.returns-in-Ok-clause-follows
returns-in-Ok-clause-follows c =
    passed_follows Put c.args.self.now.plans c.strikes.new.self c.pass.new.self _ c.strikes.ensures c.if-strikes.false c.pass.ensures
