use Rattle.std.proofs.Common.{refl}
use Rattle.rep_types.specs.declared.state.Call.TheVariants.{Make}
use Rattle.rep_vault.proofs.Runs.{struck_counted, struck_follows, passed_counted, passed_follows}
use Rattle.rep_vault.proofs.Contents.{stands_as, unchanged, added}
use Rattle.rep_vault.proofs.memory.MemVaultVault.make_folder.Goals as goal

pub returns-then-contains_key-clause-does : goal.returns-then-contains_key-clause-does
returns-then-contains_key-clause-does c =
    (stands_as c.args.folder.now c.args.self.now.folders c.args.self.now.records _ _ c.contains_key.ensures c.if-contains_key.true, refl)

pub returns-then-strikes-clause-does : goal.returns-then-strikes-clause-does
returns-then-strikes-clause-does c =
    (stands_as c.args.folder.now c.args.self.now.folders c.args.self.now.records _ _ c.contains_key.ensures c.if-contains_key.false, refl)

pub returns-in-Err-clause-does : goal.returns-in-Err-clause-does
returns-in-Err-clause-does c =
    (stands_as c.args.folder.now c.args.self.now.folders c.args.self.now.records _ _ c.contains_key.ensures c.if-contains_key.false, unchanged c.args.self.now.folders c.add_folder.new.folders c.args.self.now.records c.in-Err.ensures.err)

pub returns-in-Ok-clause-does : goal.returns-in-Ok-clause-does
returns-in-Ok-clause-does c =
    (stands_as c.args.folder.now c.args.self.now.folders c.args.self.now.records _ _ c.contains_key.ensures c.if-contains_key.false, added c.args.folder.now c.args.self.now.folders c.add_folder.new.folders c.args.self.now.records c.in-Ok.ensures.ok)

pub returns-then-strikes-clause-counted : goal.returns-then-strikes-clause-counted
returns-then-strikes-clause-counted c =
    struck_counted Make c.args.self.now.plans c.strikes.new.self _ c.strikes.ensures c.if-strikes.true

pub returns-then-strikes-clause-follows : goal.returns-then-strikes-clause-follows
returns-then-strikes-clause-follows c =
    struck_follows Make c.args.self.now.plans c.strikes.new.self _ c.strikes.ensures c.if-strikes.true

pub returns-in-Ok-clause-counted : goal.returns-in-Ok-clause-counted
returns-in-Ok-clause-counted c =
    passed_counted _ Make c.args.self.now.plans c.strikes.new.self c.pass.new.self _ c.strikes.ensures c.if-strikes.false c.pass.ensures

pub returns-in-Ok-clause-follows : goal.returns-in-Ok-clause-follows
returns-in-Ok-clause-follows c =
    passed_follows Make c.args.self.now.plans c.strikes.new.self c.pass.new.self _ c.strikes.ensures c.if-strikes.false c.pass.ensures
