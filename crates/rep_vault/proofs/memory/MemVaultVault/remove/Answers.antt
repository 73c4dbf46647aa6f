use Rattle.std.proofs.Common.{rules, Some, ap}
use Rattle.rep_types.specs.declared.state.Call.TheVariants.{Remove}
use Rattle.rep_vault.specs.Memory.{contents_in}
use Rattle.rep_vault.proofs.Maps.{puts_at, lent, lent_none}
use Rattle.rep_vault.proofs.Runs.{counted, follows}
use Rattle.rep_vault.proofs.Contents.{no_file_there, removes}
use Rattle.rep_vault.proofs.memory.MemVaultVault.remove.Goals as goal

pub returns-in-Some-clause-does : goal.returns-in-Some-clause-does
returns-in-Some-clause-does c =
    let f = c.args.folder.now in
    let m = c.args.self.now.folders in
    let d' = c.remove.new.self in
    let folders = c.get_mut.follows.lender d' in
    let there = lent f m c.get_mut.result c.in-Some.dir c.in-Some.is c.get_mut.ensures.value in
    let put = puts_at f (Some d') m folders ((c.get_mut.follows.holds d').3 (search rules)) in
    removes f c.args.name.now m folders c.args.self.now.records c.in-Some.dir.now d' c.remove.result there put c.remove.ensures.does

pub returns-in-Some-clause-counted : goal.returns-in-Some-clause-counted
returns-in-Some-clause-counted c = counted Remove c.args.self.now.plans c.remove.new.plans c.remove.result c.remove.ensures.runs

pub returns-in-Some-clause-follows : goal.returns-in-Some-clause-follows
returns-in-Some-clause-follows c = follows Remove c.args.self.now.plans c.remove.new.plans c.remove.result c.remove.ensures.runs

pub returns-in-None-clause-does : goal.returns-in-None-clause-does
returns-in-None-clause-does c =
    let none = lent_none c.args.folder.now c.args.self.now.folders c.get_mut.result c.in-None.is c.get_mut.ensures.value in
    (no_file_there c.args.folder.now c.args.name.now c.args.self.now.folders c.args.self.now.records none, ap (λ m. contents_in m c.args.self.now.records) c.get_mut.follows.holds-at-none)
