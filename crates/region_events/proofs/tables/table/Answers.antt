use Rattle.std.proofs.Common.{List, refl, ap, sym, ◌∙◌}
use Rattle.rep_vault.specs.declared.store.Change.{Change}
use Rattle.rep_vault.specs.Contents.{with_records}
use Rattle.rep_model.specs.RegionEvents.{table_plan}
use Rattle.cluster_core.proofs.Answering.{plan_refused}
use Rattle.region_events.proofs.TableAdded.{table_faulted, table_made}
use Rattle.region_events.proofs.tables.table.Goals as goal

pub returns-in-Some-clause-does : goal.returns-in-Some-clause-does
returns-in-Some-clause-does g c = λ way m reached inside stands.
    plan_refused _ (table_plan _ c.args.name c.args.families m) m _ _ c.in-Some.why (sym (c.in-Some.ensures.first c.args.families m stands.regions stands.index)) stands

pub returns-in-Ok-add-clause-does : goal.returns-in-Ok-add-clause-does
returns-in-Ok-add-clause-does g c = λ way m reached inside stands.
    table_made _ _ _ c.args.name c.args.families m stands (c.in-None.ensures.first c.args.families m stands.regions stands.index) reached inside _ _ _
    (c.in-None.ensures.room refl) c.next_region-region.ensures
    (c.in-Done.ensures.does ∙ ap (λ (cs : List Change). with_records cs (g.V.Vault.contents c.args.own.now)) (c.deref.ensures.value ∙ c.in-Ok.ensures)) c.in-Ok-add.ensures

pub returns-in-Fault-clause-does : goal.returns-in-Fault-clause-does
returns-in-Fault-clause-does g c = λ way m reached inside stands.
    table_faulted _ _ _ c.args.name c.args.families m stands (c.in-None.ensures.first c.args.families m stands.regions stands.index) c.in-Fault.count _ c.in-Fault.ensures.does
