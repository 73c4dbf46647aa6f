use Rattle.std.proofs.Common.{List, ap, sym, ◌∙◌}
use Rattle.rep_types.specs.declared.state.Call.TheVariants.{Read}
use Rattle.rep_vault.specs.declared.store.Change.{Change}
use Rattle.rep_vault.specs.Contents.{with_records}
use Rattle.rep_model.specs.RegionEvents.{recover_plan}
use Rattle.cluster_core.proofs.Answering.{plan_refused}
use Rattle.cluster_core.proofs.Later.{counts_then, told_then}
use Rattle.region_events.proofs.Recovered.{recover_unread, recover_unput, recover_known, recover_traced, recover_readable, recover_done}
use Rattle.region_events.proofs.Told.{fault_told}
use Rattle.region_events.proofs.recovering.recover.Goals as goal

pub returns-in-Some-clause-does : goal.returns-in-Some-clause-does
returns-in-Some-clause-does g c = λ way m reached inside stands.
    plan_refused _ (recover_plan _ c.args.region m) m _ _ c.in-Some.why (sym (c.in-Some.ensures m (g.V.Vault.contents c.args.own.now) stands.regions stands.servers)) stands

pub prepare-requires-clause-known : goal.prepare-requires-clause-known
prepare-requires-clause-known g c = let k = c.requires in recover_known _ _ _ c.args.region k.1 k.4 (c.in-None.ensures k.1 (g.V.Vault.contents c.args.own.now) k.4.regions k.4.servers)

pub prepare-requires-clause-traced : goal.prepare-requires-clause-traced
prepare-requires-clause-traced g c = let k = c.requires in recover_traced _ _ _ c.args.region k.1 k.4 (c.in-None.ensures k.1 (g.V.Vault.contents c.args.own.now) k.4.regions k.4.servers) k.2 k.3

pub read_unflushed-requires : goal.read_unflushed-requires
read_unflushed-requires g c =
    let k = c.requires in
    recover_readable _ _ _ c.args.region k.1 k.4 (c.in-None.ensures k.1 (g.V.Vault.contents c.args.own.now) k.4.regions k.4.servers) k.2 k.3 c.in-Ok.next.flushed _ c.in-Ok.ensures

pub returns-in-Err-StoreFault-clause-does : goal.returns-in-Err-StoreFault-clause-does
returns-in-Err-StoreFault-clause-does g c = λ way m reached inside stands.
    rw c.in-Err-StoreFault.field-0-is
    (recover_unread _ _ _ c.args.region m stands (c.in-None.ensures m (g.V.Vault.contents c.args.own.now) stands.regions stands.servers) c.in-Err-StoreFault.count _ c.read_unflushed.ensures.same)

pub returns-in-Err-StoreFault-clause-told : goal.returns-in-Err-StoreFault-clause-told
returns-in-Err-StoreFault-clause-told g c =
    let f = rw c.in-Err-StoreFault.field-0-is at c.in-Err-StoreFault.ensures.tells.fault in
    rw c.in-Err-StoreFault.field-0-is (fault_told c.args.core.now.own Read c.in-Err-StoreFault.count _ _ f)

pub leave-requires : goal.leave-requires
leave-requires g c = let k = c.requires in recover_known _ _ _ c.args.region k.1 k.4 (c.in-None.ensures k.1 (g.V.Vault.contents c.args.own.now) k.4.regions k.4.servers)

pub returns-in-Done-clause-does : goal.returns-in-Done-clause-does
returns-in-Done-clause-does g c = λ way m reached inside stands.
    let put = c.in-Done.ensures.does ∙ (ap (with_records c.deref.result.now) c.read_unflushed.ensures.same
    ∙ ap (λ (cs : List Change). with_records cs (g.V.Vault.contents c.args.own.now)) c.deref.ensures.value) in
    recover_done _ _ _ c.args.region m stands (c.in-None.ensures m
    (g.V.Vault.contents c.args.own.now) stands.regions stands.servers) reached inside c.in-Ok.next.flushed _ c.in-Ok.ensures _ _ put c.leave.ensures

pub returns-in-Fault-clause-does : goal.returns-in-Fault-clause-does
returns-in-Fault-clause-does g c = λ way m reached inside stands.
    recover_unput _ _ _ c.args.region m stands (c.in-None.ensures m (g.V.Vault.contents c.args.own.now) stands.regions stands.servers) c.in-Fault.count _
    (c.in-Fault.ensures.does ∙ c.read_unflushed.ensures.same)

pub returns-in-Done-clause-counts : goal.returns-in-Done-clause-counts
returns-in-Done-clause-counts g c = let r = c.read_unflushed.ensures.tells in counts_then _ _ _ (record { kept = r.kept; planned = r.planned }) c.in-Done.ensures.counts.counts

pub returns-in-Fault-clause-counts : goal.returns-in-Fault-clause-counts
returns-in-Fault-clause-counts g c = let r = c.read_unflushed.ensures.tells in counts_then _ _ _ (record { kept = r.kept; planned = r.planned }) c.in-Fault.ensures.counts.counts

pub returns-in-Fault-clause-told : goal.returns-in-Fault-clause-told
returns-in-Fault-clause-told g c =
    let r = c.read_unflushed.ensures.tells in told_then c.args.core.now.own c.in-Fault.count _ _ _ (record { kept = r.kept; planned = r.planned }) c.in-Fault.ensures.counts.told
