use Rattle.std.proofs.Common.{refl}
use Rattle.rep_types.specs.declared.state.Call.TheVariants.{Rename}
use Rattle.rep_vault.proofs.Runs.{struck_counted, struck_follows, passed_counted, passed_follows}
use Rattle.rep_vault.proofs.Contents.{stands_as, unchanged, moved}
use Rattle.rep_vault.proofs.memory.MemVaultVault.rename_folder.Goals as goal

pub returns-then-not-contains_key-clause-does : goal.returns-then-not-contains_key-clause-does
returns-then-not-contains_key-clause-does c =
    (stands_as c.args.from.now c.args.self.now.folders c.args.self.now.records _ _ c.contains_key.ensures c.if-not-contains_key.true, refl)

pub returns-then-contains_key-clause-does : goal.returns-then-contains_key-clause-does
returns-then-contains_key-clause-does c =
    (stands_as c.args.from.now c.args.self.now.folders c.args.self.now.records _ _ c.contains_key.ensures c.if-not-contains_key.false, stands_as c.args.to.now c.args.self.now.folders c.args.self.now.records _ _ c.contains_key-2.ensures c.if-contains_key.true, refl)

pub returns-then-strikes-clause-does : goal.returns-then-strikes-clause-does
returns-then-strikes-clause-does c =
    (record { stands = stands_as c.args.from.now c.args.self.now.folders c.args.self.now.records _ _ c.contains_key.ensures c.if-not-contains_key.false; free = stands_as c.args.to.now c.args.self.now.folders c.args.self.now.records _ _ c.contains_key-2.ensures c.if-contains_key.false }, refl)

pub returns-in-Err-clause-does : goal.returns-in-Err-clause-does
returns-in-Err-clause-does c =
    (record { stands = stands_as c.args.from.now c.args.self.now.folders c.args.self.now.records _ _ c.contains_key.ensures c.if-not-contains_key.false; free = stands_as c.args.to.now c.args.self.now.folders c.args.self.now.records _ _ c.contains_key-2.ensures c.if-contains_key.false }, unchanged c.args.self.now.folders c.move_folder.new.folders c.args.self.now.records c.in-Err.ensures.err)

pub returns-in-Ok-clause-does : goal.returns-in-Ok-clause-does
returns-in-Ok-clause-does c =
    (record { stands = stands_as c.args.from.now c.args.self.now.folders c.args.self.now.records _ _ c.contains_key.ensures c.if-not-contains_key.false; free = stands_as c.args.to.now c.args.self.now.folders c.args.self.now.records _ _ c.contains_key-2.ensures c.if-contains_key.false }, moved c.args.from.now c.args.to.now c.args.self.now.folders c.move_folder.new.folders c.args.self.now.records c.in-Ok.ensures.ok)

pub returns-then-strikes-clause-counted : goal.returns-then-strikes-clause-counted
returns-then-strikes-clause-counted c =
    struck_counted Rename c.args.self.now.plans c.strikes.new.self _ c.strikes.ensures c.if-strikes.true

pub returns-then-strikes-clause-follows : goal.returns-then-strikes-clause-follows
returns-then-strikes-clause-follows c =
    struck_follows Rename c.args.self.now.plans c.strikes.new.self _ c.strikes.ensures c.if-strikes.true

pub returns-in-Ok-clause-counted : goal.returns-in-Ok-clause-counted
returns-in-Ok-clause-counted c =
    passed_counted _ Rename c.args.self.now.plans c.strikes.new.self c.pass.new.self _ c.strikes.ensures c.if-strikes.false c.pass.ensures

pub returns-in-Ok-clause-follows : goal.returns-in-Ok-clause-follows
returns-in-Ok-clause-follows c =
    passed_follows Rename c.args.self.now.plans c.strikes.new.self c.pass.new.self _ c.strikes.ensures c.if-strikes.false c.pass.ensures
