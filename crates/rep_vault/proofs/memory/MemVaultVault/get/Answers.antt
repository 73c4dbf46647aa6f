use Rattle.std.proofs.Common.{refl, ap, Some, sym, ◌∙◌}
use Rattle.rep_vault.proofs.Contents.{found_record, found_no_record}
use Rattle.rep_vault.proofs.memory.MemVaultVault.get.Goals as goal

pub returns-in-Ok-clause-does : goal.returns-in-Ok-clause-does
returns-in-Ok-clause-does c =
    found_record c.args.key.now c.args.self.now.folders c.args.self.now.records c.record.result c.in-Some.value c.in-Some.is c.record.ensures ∙ ap Some (sym c.in-Ok.ensures)

pub returns-in-None-clause-does : goal.returns-in-None-clause-does
returns-in-None-clause-does c =
    (found_no_record c.args.key.now c.args.self.now.folders c.args.self.now.records c.record.result c.in-None.is c.record.ensures, refl)
