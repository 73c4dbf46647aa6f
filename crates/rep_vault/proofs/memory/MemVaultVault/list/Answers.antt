use Rattle.rep_types.specs.declared.state.Call.TheVariants.{List}
use Rattle.rep_vault.proofs.Runs.{struck_counted, struck_follows, passed_counted, passed_follows}
use Rattle.rep_vault.proofs.Contents.{a_folder, no_folder, got_folder, got_no_folder, names_there}
use Rattle.rep_vault.proofs.memory.MemVaultVault.list.Goals as goal

pub returns-then-strikes-clause-does : goal.returns-then-strikes-clause-does
returns-then-strikes-clause-does c =
    a_folder c.args.folder.now c.args.self.now.folders c.args.self.now.records c.in-Some.dir.now (got_folder c.args.folder.now c.args.self.now.folders c.get.result c.in-Some.dir c.in-Some.is c.get.ensures.value)

pub returns-in_default-clause-does : goal.returns-in_default-clause-does
returns-in_default-clause-does c =
    a_folder c.args.folder.now c.args.self.now.folders c.args.self.now.records c.in-Some.dir.now (got_folder c.args.folder.now c.args.self.now.folders c.get.result c.in-Some.dir c.in-Some.is c.get.ensures.value)

pub returns-in-Ok-clause-does : goal.returns-in-Ok-clause-does
returns-in-Ok-clause-does c =
    (a_folder c.args.folder.now c.args.self.now.folders c.args.self.now.records c.in-Some.dir.now (got_folder c.args.folder.now c.args.self.now.folders c.get.result c.in-Some.dir c.in-Some.is c.get.ensures.value), names_there c.args.folder.now c.args.self.now.folders c.args.self.now.records c.in-Some.dir.now _ (got_folder c.args.folder.now c.args.self.now.folders c.get.result c.in-Some.dir c.in-Some.is c.get.ensures.value) c.in-Ok.ensures)

pub returns-in-None-clause-does : goal.returns-in-None-clause-does
returns-in-None-clause-does c =
    no_folder c.args.folder.now c.args.self.now.folders c.args.self.now.records (got_no_folder c.args.folder.now c.args.self.now.folders c.get.result c.in-None.is c.get.ensures.value)

pub returns-then-strikes-clause-counted : goal.returns-then-strikes-clause-counted
returns-then-strikes-clause-counted c =
    struck_counted List c.args.self.now.plans c.strikes.new.self _ c.strikes.ensures c.if-strikes.true

pub returns-then-strikes-clause-follows : goal.returns-then-strikes-clause-follows
returns-then-strikes-clause-follows c =
    struck_follows List c.args.self.now.plans c.strikes.new.self _ c.strikes.ensures c.if-strikes.true

pub returns-in-Ok-clause-counted : goal.returns-in-Ok-clause-counted
returns-in-Ok-clause-counted c =
    passed_counted _ List c.args.self.now.plans c.strikes.new.self c.pass.new.self _ c.strikes.ensures c.if-strikes.false c.pass.ensures

pub returns-in-Ok-clause-follows : goal.returns-in-Ok-clause-follows
returns-in-Ok-clause-follows c =
    passed_follows List c.args.self.now.plans c.strikes.new.self c.pass.new.self _ c.strikes.ensures c.if-strikes.false c.pass.ensures
