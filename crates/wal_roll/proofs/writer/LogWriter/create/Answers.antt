use Rattle.std.proofs.Common.{◌∙◌, subst}
use Rattle.wal_roll.specs.Log.{wal}
use Rattle.wal_roll.specs.Steps.{OnlyFile}
use Rattle.wal_roll.proofs.Logs.{only_file, created}
use Rattle.wal_roll.proofs.writer.LogWriter.create.Goals as goal

pub returns-in-Done-clause-does : goal.returns-in-Done-clause-does
returns-in-Done-clause-does g c =
    let empty = c.new.ensures.items in
    created _ _ _ c.args.server c.args.number _ (c.as_str.ensures.value ∙ c.in-Ok.ensures) c.in-Done.ensures.does (cc empty)

pub returns-in-Done-clause-frame : goal.returns-in-Done-clause-frame
returns-in-Done-clause-frame g c =
    subst (λ n. OnlyFile wal n (g.V.Vault.contents c.args.vault.now) (g.V.Vault.contents c.make_file.new.vault)) (c.as_str.ensures.value ∙ c.in-Ok.ensures) (only_file wal c.as_str.result.now _ _ _ c.in-Done.ensures.does)
