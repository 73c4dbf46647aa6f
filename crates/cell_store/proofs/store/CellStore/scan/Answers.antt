use Rattle.std.proofs.Common.{List, All, ap, sym, ◌∙◌, subst}
use Rattle.cell_store.specs.declared.named.NamedRun.{NamedRun}
use Rattle.cell_store.specs.Cells.{IsThere, StoreValue}
use Rattle.cell_store.proofs.store.CellStore.scan.Goals as goal

pub gather-requires-clause-there : goal.gather-requires-clause-there
gather-requires-clause-there g c =
    let runs = c.deref-2.ensures.value ∙ ap (λ (s : StoreValue). s.runs) c.self.view_is in
    subst (λ (rs : List NamedRun). All (IsThere (g.V.Vault.contents c.args.vault.now)) rs) (sym runs) c.requires.there
