use Rattle.std.proofs.Common.{ap, ◌∙◌}
use Rattle.run_cells.specs.Outdone.{compacted}
use Rattle.cell_store.proofs.Survived.{kept_in_order, short_kept, survive_so, typed_kept}
use Rattle.cell_store.proofs.compacting.survivors.Goals as goal

pub returns-clause-does : goal.returns-clause-does
returns-clause-does g c =
    survive_so (g.V.Vault.contents c.args.vault.now) c.deref.result.now c.args.runs.now c.in_ok-all.all c.in_ok-compact.field-0
    (c.deref.ensures.value ∙ c.new-none.ensures.items) c.in_ok-all.ensures.does (c.in_ok-compact.ensures ∙ ap compacted c.as_slice.ensures)

pub returns-clause-order : goal.returns-clause-order
returns-clause-order g c = kept_in_order (g.V.Vault.contents c.args.vault.now) c.args.runs.now c.in_ok-compact.field-0 (returns-clause-does g c)

pub returns-clause-typed : goal.returns-clause-typed
returns-clause-typed g c = typed_kept (g.V.Vault.contents c.args.vault.now) c.args.runs.now c.in_ok-compact.field-0 c.requires.apart (returns-clause-does g c) c.in_ok-all.ensures.held

pub returns-clause-short : goal.returns-clause-short
returns-clause-short g c = short_kept (g.V.Vault.contents c.args.vault.now) c.args.runs.now c.in_ok-compact.field-0 c.requires.apart (returns-clause-does g c) c.in_ok-all.ensures.held
