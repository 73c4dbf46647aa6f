use Rattle.std.proofs.Common.{List, All, ap, sym, ◌∙◌, subst}
use Rattle.cell_store.specs.declared.named.NamedRun.{NamedRun}
use Rattle.cell_store.specs.Cells.{any_named, AreApart, IsThere, StoreValue}
use Rattle.cell_store.proofs.Rewritten.{compacted_so, fit_so, runs_apart, shows_alike, stand, stay_apart}
use Rattle.cell_store.proofs.store.CellStore.compact.Goals as goal

pub survivors-requires-clause-there : goal.survivors-requires-clause-there
survivors-requires-clause-there g c =
    let runs = c.deref.ensures.value ∙ ap (λ (s : StoreValue). s.runs) c.self.view_is in
    subst (λ (rs : List NamedRun). All (IsThere (g.V.Vault.contents c.args.vault.now)) rs) (sym runs) c.requires.there

pub survivors-requires-clause-apart : goal.survivors-requires-clause-apart
survivors-requires-clause-apart g c =
    let store = g.V.Vault.contents c.args.vault.now in
    let runs = c.deref.ensures.value ∙ ap (λ (s : StoreValue). s.runs) c.self.view_is in
    subst (λ (rs : List NamedRun). AreApart (any_named store rs)) (sym runs) (runs_apart store c.args.self.now c.requires.apart)

abbrev pub returns-clause-does : goal.returns-clause-does
returns-clause-does g c =
    compacted_so c.args.name (g.V.Vault.contents c.args.vault.now) (g.V.Vault.contents c.survivors.new.vault) (g.V.Vault.contents c.write_survivors.new.vault) c.args.self.now
    c.self.inside.cells.items c.deref.result.now c.in_ok-self-inside.field-0.items c.in_ok-kept.kept c.as_slice.result.now
    c.survivors.ensures.kept (ap (λ (s : StoreValue). s.memory) c.self.view_is) (c.deref.ensures.value ∙ ap (λ (s : StoreValue). s.runs) c.self.view_is) c.as_slice.ensures
    c.in_ok-kept.ensures.does c.in_ok-self-inside.ensures.written c.in_ok-self-inside.ensures.named

pub returns-clause-kept : goal.returns-clause-kept
returns-clause-kept g c =
    shows_alike c.args.name (g.V.Vault.contents c.args.vault.now) (g.V.Vault.contents c.write_survivors.new.vault) c.args.self.now
    (record { memory = c.self.inside.cells.items; runs = c.in_ok-self-inside.field-0.items }) (returns-clause-does g c)
    (fit_so c.in_ok-kept.kept c.as_slice.result.now c.as_slice.ensures c.in_ok-kept.ensures.order c.in_ok-kept.ensures.typed c.in_ok-kept.ensures.short c.in_ok-self-inside.ensures.few)

pub returns-clause-there : goal.returns-clause-there
returns-clause-there g c =
    stand c.args.name (g.V.Vault.contents c.args.vault.now) (g.V.Vault.contents c.write_survivors.new.vault) c.args.self.now
    (record { memory = c.self.inside.cells.items; runs = c.in_ok-self-inside.field-0.items }) (returns-clause-does g c)
    (fit_so c.in_ok-kept.kept c.as_slice.result.now c.as_slice.ensures c.in_ok-kept.ensures.order c.in_ok-kept.ensures.typed c.in_ok-kept.ensures.short c.in_ok-self-inside.ensures.few)

pub returns-clause-apart : goal.returns-clause-apart
returns-clause-apart g c =
    stay_apart c.args.name (g.V.Vault.contents c.args.vault.now) (g.V.Vault.contents c.write_survivors.new.vault) c.args.self.now
    (record { memory = c.self.inside.cells.items; runs = c.in_ok-self-inside.field-0.items }) (returns-clause-does g c)
    (fit_so c.in_ok-kept.kept c.as_slice.result.now c.as_slice.ensures c.in_ok-kept.ensures.order c.in_ok-kept.ensures.typed c.in_ok-kept.ensures.short c.in_ok-self-inside.ensures.few)
    c.requires.apart
