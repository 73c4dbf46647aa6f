use Rattle.std.proofs.Common.{List, ap, sym, ◌∙◌}
use Rattle.rep_vault.specs.declared.store.Change.{Change}
use Rattle.rep_vault.specs.Contents.{with_records}
use Rattle.rep_model.specs.RegionEvents.{open_begin_plan}
use Rattle.cluster_core.proofs.Answering.{plan_refused}
use Rattle.region_events.proofs.OpeningBegun.{open_faulted, open_known, open_traced, open_rises, open_done}
use Rattle.region_events.proofs.openings.open_begin.Goals as goal

pub returns-in-Some-clause-does : goal.returns-in-Some-clause-does
returns-in-Some-clause-does g c = λ way m reached inside stands.
    plan_refused _ (open_begin_plan _ c.args.region c.args.server m) m _ _ c.in-Some.why (sym (c.in-Some.ensures m (g.V.Vault.contents c.args.own.now) stands.regions stands.servers)) stands

pub prepare-requires-clause-known : goal.prepare-requires-clause-known
prepare-requires-clause-known g c = let k = c.requires in open_known _ _ _ c.args.region c.args.server k.1 k.4 (c.in-None.ensures k.1 (g.V.Vault.contents c.args.own.now) k.4.regions k.4.servers)

pub prepare-requires-clause-traced : goal.prepare-requires-clause-traced
prepare-requires-clause-traced g c =
    let k = c.requires in open_traced _ _ _ c.args.region c.args.server k.1 k.4 (c.in-None.ensures k.1 (g.V.Vault.contents c.args.own.now) k.4.regions k.4.servers) k.2 k.3

pub open-requires-clause-within : goal.open-requires-clause-within
open-requires-clause-within g c =
    let k = c.requires in open_traced _ _ _ c.args.region c.args.server k.1 k.4 (c.in-None.ensures k.1 (g.V.Vault.contents c.args.own.now) k.4.regions k.4.servers) k.2 k.3

pub open-requires-clause-order : goal.open-requires-clause-order
open-requires-clause-order g c = let k = c.requires in
    open_rises _ _ _ c.args.region c.args.server k.1 k.4 (c.in-None.ensures k.1 (g.V.Vault.contents c.args.own.now) k.4.regions k.4.servers) k.2 k.3 c.in-Ok.next.barrier _ c.in-Ok.ensures

pub returns-in-Ok-open-clause-does : goal.returns-in-Ok-open-clause-does
returns-in-Ok-open-clause-does g c = λ way m reached inside stands.
    open_done _ _ _ c.args.region c.args.server m stands (c.in-None.ensures m (g.V.Vault.contents c.args.own.now) stands.regions stands.servers) reached inside c.in-Ok.next.barrier _ c.in-Ok.ensures _ _
    (c.in-Done.ensures.does ∙ ap (λ (cs : List Change). with_records cs (g.V.Vault.contents c.args.own.now)) c.deref.ensures.value) c.in-Ok-open.ensures

pub returns-in-Fault-clause-does : goal.returns-in-Fault-clause-does
returns-in-Fault-clause-does g c = λ way m reached inside stands.
    open_faulted _ _ _ c.args.region c.args.server m stands (c.in-None.ensures m (g.V.Vault.contents c.args.own.now) stands.regions stands.servers) c.in-Fault.count _ c.in-Fault.ensures.does
