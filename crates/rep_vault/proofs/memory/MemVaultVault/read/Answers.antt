use Rattle.std.proofs.Common.{◌∙◌}
use Rattle.rep_types.specs.declared.state.Call.TheVariants.{Read}
use Rattle.rep_vault.specs.Stored.{shown}
use Rattle.rep_vault.proofs.Runs.{struck_counted, struck_follows, passed_counted, passed_follows}
use Rattle.rep_vault.proofs.Contents.{found_file, found_no_file, not_none}
use Rattle.rep_vault.proofs.memory.MemVaultVault.read.Goals as goal

pub returns-then-strikes-clause-does : goal.returns-then-strikes-clause-does
returns-then-strikes-clause-does c =
    not_none _ _ (found_file c.args.folder.now c.args.name.now c.args.self.now.folders c.args.self.now.records c.find.result c.in-Some.file c.in-Some.is c.find.ensures)

pub returns-in_default-clause-does : goal.returns-in_default-clause-does
returns-in_default-clause-does c =
    not_none _ _ (found_file c.args.folder.now c.args.name.now c.args.self.now.folders c.args.self.now.records c.find.result c.in-Some.file c.in-Some.is c.find.ensures)

pub returns-in-Ok-clause-does : goal.returns-in-Ok-clause-does
returns-in-Ok-clause-does c =
    (shown c.in-Some.file.now, found_file c.args.folder.now c.args.name.now c.args.self.now.folders c.args.self.now.records c.find.result c.in-Some.file c.in-Some.is c.find.ensures, c.in-Ok.ensures ∙ c.part.ensures)

pub returns-in-None-clause-does : goal.returns-in-None-clause-does
returns-in-None-clause-does c =
    found_no_file c.args.folder.now c.args.name.now c.args.self.now.folders c.args.self.now.records c.find.result c.in-None.is c.find.ensures

pub returns-then-strikes-clause-counted : goal.returns-then-strikes-clause-counted
returns-then-strikes-clause-counted c =
    struck_counted Read c.args.self.now.plans c.strikes.new.self _ c.strikes.ensures c.if-strikes.true

pub returns-then-strikes-clause-follows : goal.returns-then-strikes-clause-follows
returns-then-strikes-clause-follows c =
    struck_follows Read c.args.self.now.plans c.strikes.new.self _ c.strikes.ensures c.if-strikes.true

pub returns-in-Ok-clause-counted : goal.returns-in-Ok-clause-counted
returns-in-Ok-clause-counted c =
    passed_counted _ Read c.args.self.now.plans c.strikes.new.self c.pass.new.self _ c.strikes.ensures c.if-strikes.false c.pass.ensures

pub returns-in-Ok-clause-follows : goal.returns-in-Ok-clause-follows
returns-in-Ok-clause-follows c =
    passed_follows Read c.args.self.now.plans c.strikes.new.self c.pass.new.self _ c.strikes.ensures c.if-strikes.false c.pass.ensures
