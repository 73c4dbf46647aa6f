use Rattle.std.proofs.Common.{◌∙◌}
use Rattle.wal_roll.proofs.Logs.{only_file}
use Rattle.rep_vault.specs.Contents.{empty_file}
use Rattle.store_file.specs.Stored.{run}
use Rattle.store_file.proofs.Written.{only_both, tells_later, made_open, filled}
use Rattle.store_file.proofs.write.write_run.Goals as goal

pub fill-requires : goal.fill-requires
fill-requires g c = made_open c.args.name.now _ _ c.in-Ok.ensures.does.1

pub returns-in-Ok-clause-does : goal.returns-in-Ok-clause-does
returns-in-Ok-clause-does g c =
    filled c.args.name.now c.args.cells.now c.as_slice.result.now (g.V.Vault.contents c.args.vault.now) (g.V.Vault.contents c.fill.new.vault) c.fill.result c.in-Ok.ensures.does.0 (c.as_slice.ensures ∙ c.in_ok-bytes.ensures) c.fill.ensures.does

pub returns-in-Ok-clause-frame : goal.returns-in-Ok-clause-frame
returns-in-Ok-clause-frame g c = only_both run c.args.name.now _ _ _ (only_file run c.args.name.now empty_file _ _ c.in-Ok.ensures.does.1) c.fill.ensures.frame

pub returns-in-Ok-clause-tells : goal.returns-in-Ok-clause-tells
returns-in-Ok-clause-tells g c = tells_later _ _ _ _ c.create.ensures.counted.kept c.create.ensures.counted.planned c.fill.ensures.tells
