use Rattle.cell_store.proofs.Flushed.{keeps_so}
use Rattle.cell_store.proofs.store.CellStore.flush.Goals as goal

pub returns-clause-kept : goal.returns-clause-kept
returns-clause-kept g c =
    let done = c.write_memory.ensures in
    keeps_so (g.V.Vault.contents c.args.vault.now) (g.V.Vault.contents c.write_memory.new.vault) c.args.name c.write_memory.result c.args.self.now c.write_memory.new.self
    done.frame done.value done.does c.requires.there done.order c.requires.values done.few
