use Rattle.std.proofs.Common.{rules, Some, ap}
use Rattle.rep_types.specs.declared.state.Call.TheVariants.{Seal}
use Rattle.rep_vault.specs.Memory.{contents_in}
use Rattle.rep_vault.proofs.Maps.{puts_at, lent, lent_none}
use Rattle.rep_vault.proofs.Runs.{counted, follows}
use Rattle.rep_vault.proofs.Writes.{writes, no_name, seals, seals_at}
use Rattle.rep_vault.proofs.Contents.{no_file_there}
use Rattle.rep_vault.proofs.memory.MemVaultVault.seal.Goals as goal

pub returns-in-Some-get_mut-clause-does : goal.returns-in-Some-get_mut-clause-does
returns-in-Some-get_mut-clause-does c =
    let f = c.args.folder.now in
    let n = c.args.name.now in
    let m = c.args.self.now.folders in
    let d = c.in-Some.dir.now in
    let x = c.in-Some-get_mut.file.now in
    let y = c.seal.new.self in
    let files = c.get_mut-in-Some.follows.lender y in
    let folders = c.get_mut.follows.lender (record { files = files }) in
    let there = lent f m c.get_mut.result c.in-Some.dir c.in-Some.is c.get_mut.ensures.value in
    let found = lent n d.files c.get_mut-in-Some.result c.in-Some-get_mut.file c.in-Some-get_mut.is c.get_mut-in-Some.ensures.value in
    let put = puts_at f (Some (record { files = files })) m folders ((c.get_mut.follows.holds (record { files = files })).3 (search rules)) in
    let written = puts_at n (Some y) d.files files ((c.get_mut-in-Some.follows.holds y).3 (search rules)) in
    let w = writes f n m folders c.args.self.now.records d (record { files = files }) x y there found put written in
    seals f n c.args.self.now.keep c.seal.new.keep _ _ _ _ c.seal.result w c.seal.ensures.does

pub returns-in-Some-get_mut-clause-keeps : goal.returns-in-Some-get_mut-clause-keeps
returns-in-Some-get_mut-clause-keeps c =
    let f = c.args.folder.now in
    let n = c.args.name.now in
    let m = c.args.self.now.folders in
    let d = c.in-Some.dir.now in
    let x = c.in-Some-get_mut.file.now in
    let y = c.seal.new.self in
    let files = c.get_mut-in-Some.follows.lender y in
    let folders = c.get_mut.follows.lender (record { files = files }) in
    let there = lent f m c.get_mut.result c.in-Some.dir c.in-Some.is c.get_mut.ensures.value in
    let found = lent n d.files c.get_mut-in-Some.result c.in-Some-get_mut.file c.in-Some-get_mut.is c.get_mut-in-Some.ensures.value in
    let put = puts_at f (Some (record { files = files })) m folders ((c.get_mut.follows.holds (record { files = files })).3 (search rules)) in
    let written = puts_at n (Some y) d.files files ((c.get_mut-in-Some.follows.holds y).3 (search rules)) in
    let w = writes f n m folders c.args.self.now.records d (record { files = files }) x y there found put written in
    seals_at f n c.args.self.now.keep c.seal.new.keep _ _ _ _ c.seal.result w c.seal.ensures.does

pub returns-in-Some-get_mut-clause-counted : goal.returns-in-Some-get_mut-clause-counted
returns-in-Some-get_mut-clause-counted c = counted Seal c.args.self.now.plans c.seal.new.plans c.seal.result c.seal.ensures.runs

pub returns-in-Some-get_mut-clause-follows : goal.returns-in-Some-get_mut-clause-follows
returns-in-Some-get_mut-clause-follows c = follows Seal c.args.self.now.plans c.seal.new.plans c.seal.result c.seal.ensures.runs

pub returns-in-None-get_mut-clause-does : goal.returns-in-None-get_mut-clause-does
returns-in-None-get_mut-clause-does c =
    let f = c.args.folder.now in
    let n = c.args.name.now in
    let m = c.args.self.now.folders in
    let d = c.in-Some.dir.now in
    let files = c.get_mut-in-Some.follows.lender-at-none in
    let folders = c.get_mut.follows.lender (record { files = files }) in
    let there = lent f m c.get_mut.result c.in-Some.dir c.in-Some.is c.get_mut.ensures.value in
    let none = lent_none n d.files c.get_mut-in-Some.result c.in-None-get_mut.is c.get_mut-in-Some.ensures.value in
    let put = puts_at f (Some (record { files = files })) m folders ((c.get_mut.follows.holds (record { files = files })).3 (search rules)) in
    no_name f n m folders c.args.self.now.records d (record { files = files }) there none put c.get_mut-in-Some.follows.holds-at-none

pub returns-in-None-clause-does : goal.returns-in-None-clause-does
returns-in-None-clause-does c =
    let none = lent_none c.args.folder.now c.args.self.now.folders c.get_mut.result c.in-None.is c.get_mut.ensures.value in
    (no_file_there c.args.folder.now c.args.name.now c.args.self.now.folders c.args.self.now.records none, ap (λ m. contents_in m c.args.self.now.records) c.get_mut.follows.holds-at-none)
