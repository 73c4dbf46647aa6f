use Rattle.std.proofs.Common.{List, ap, ◌∙◌}
use Rattle.rep_vault.specs.declared.store.Change.{Change}
use Rattle.rep_vault.specs.Contents.{Contents, with_records}
use Rattle.rep_model.specs.State.{of}
use Rattle.cluster_core.specs.declared.parts.ClusterCore.{ClusterCore}
use Rattle.cluster_core.proofs.Later.{counts_then, told_then}
use Rattle.region_events.specs.declared.markers.Ending.TheVariants as ending
use Rattle.region_events.proofs.Marked.{end_refused, not_marked, is_known, stays_known, may_enter, marking_host, tidy, told_so}
use Rattle.region_events.proofs.ClosingEnded.{close_done, close_left}
use Rattle.region_events.proofs.ending.close_end.Goals as goal

pub returns-in-Err-clause-does : goal.returns-in-Err-clause-does
returns-in-Err-clause-does g c = λ way m reached inside stands.
    let core : ClusterCore = c.args.core.now in
    let old : Contents = g.V.Vault.contents c.args.own.now in
    end_refused way ending.Closes core.own c.args.region m old core c.in-Err.why (c.in-Err.ensures.state m old stands) stands

pub off_record-requires : goal.off_record-requires
off_record-requires g c =
    let core : ClusterCore = c.args.core.now in
    let old : Contents = g.V.Vault.contents c.args.own.now in
    let w = c.requires in
    is_known ending.Closes core.own old core w.1 c.args.region c.in-Ok.at w.2 w.3 w.4 (c.in-Ok.ensures.state w.1 old w.4)

pub commit_entry-requires-clause-stands : goal.commit_entry-requires-clause-stands
commit_entry-requires-clause-stands g c =
    let core : ClusterCore = c.args.core.now in
    let old : Contents = g.V.Vault.contents c.args.own.now in
    let w = c.requires in
    marking_host ending.Closes core.own old core w.1 c.args.region c.in-Ok.at w.2 w.3 w.4 (c.in-Ok.ensures.state w.1 old w.4)

pub returns-in-Err-commit_entry-clause-does : goal.returns-in-Err-commit_entry-clause-does
returns-in-Err-commit_entry-clause-does g c = λ way m reached inside stands.
    let core : ClusterCore = c.args.core.now in
    let old : Contents = g.V.Vault.contents c.args.own.now in
    let k = c.in-Ok.ensures.state m old stands in
    let may = may_enter ending.Closes core.own old core m c.args.region c.in-Ok.at reached inside stands k c.in-Some.entry c.in-Some.ensures in
    let q = c.in-Err-commit_entry.ensures.does (of core.own m) k.on _ k.station may (tidy ending.Closes core.own old core m c.args.region c.in-Ok.at reached inside stands k) stands in
    not_marked ending.Closes core.own old core m c.args.region c.in-Ok.at reached inside stands k
    (g.V.Vault.contents c.commit_entry.new.own) c.commit_entry.new.core c.current_log-log.result.server c.current_log-log.result.number c.current_log-log.ensures.server c.current_log-log.ensures.number
    c.in-Err-commit_entry.why c.unmarked.result c.unmarked.ensures q

pub returns-in-Err-commit_entry-clause-told : goal.returns-in-Err-commit_entry-clause-told
returns-in-Err-commit_entry-clause-told g c = told_so c.args.core.now.own c.current_log-log.result.server c.current_log-log.result.number c.in-Err-commit_entry.why c.unmarked.result _ _ c.unmarked.ensures c.in-Err-commit_entry.ensures.told

pub set_place-requires : goal.set_place-requires
set_place-requires g c =
    let core : ClusterCore = c.args.core.now in
    let old : Contents = g.V.Vault.contents c.args.own.now in
    let w = c.requires in
    let k = c.in-Ok.ensures.state w.1 old w.4 in
    let may = may_enter ending.Closes core.own old core w.1 c.args.region c.in-Ok.at w.2 w.3 w.4 k c.in-Some.entry c.in-Some.ensures in
    let q = c.in-Ok-commit_entry.ensures.does (of core.own w.1) k.on _ k.station may (tidy ending.Closes core.own old core w.1 c.args.region c.in-Ok.at w.2 w.3 w.4 k) w.4 in
    stays_known ending.Closes core.own old core w.1 c.args.region c.in-Ok.at w.2 w.3 w.4 k c.in-Some.entry c.in-Some.ensures (g.V.Vault.contents c.commit_entry.new.own) c.commit_entry.new.core _ q

pub returns-in-Done-clause-does : goal.returns-in-Done-clause-does
returns-in-Done-clause-does g c = λ way m reached inside stands.
    let core : ClusterCore = c.args.core.now in
    let old : Contents = g.V.Vault.contents c.args.own.now in
    let mid : Contents = g.V.Vault.contents c.commit_entry.new.own in
    let left : ClusterCore = c.commit_entry.new.core in
    let k = c.in-Ok.ensures.state m old stands in
    let may = may_enter ending.Closes core.own old core m c.args.region c.in-Ok.at reached inside stands k c.in-Some.entry c.in-Some.ensures in
    let q = c.in-Ok-commit_entry.ensures.does (of core.own m) k.on _ k.station may (tidy ending.Closes core.own old core m c.args.region c.in-Ok.at reached inside stands k) stands in
    close_done core.own old core m c.args.region c.in-Ok.at reached inside stands k mid (g.V.Vault.contents c.put_records.new.own) left _ q c.in-Some.entry c.in-Some.ensures _ _ c.in-Ok-off_record.ensures
    (c.in-Done.ensures.does ∙ ap (λ (cs : List Change). with_records cs mid) c.deref.ensures.value) (λ i. record left { map = c.set_place.ensures i })

pub returns-in-Done-clause-counts : goal.returns-in-Done-clause-counts
returns-in-Done-clause-counts g c = counts_then _ _ _ c.in-Ok-commit_entry.ensures.counts c.in-Done.ensures.counts.counts

pub returns-in-Fault-clause-does : goal.returns-in-Fault-clause-does
returns-in-Fault-clause-does g c = λ way m reached inside stands.
    let core : ClusterCore = c.args.core.now in
    let old : Contents = g.V.Vault.contents c.args.own.now in
    let k = c.in-Ok.ensures.state m old stands in
    let may = may_enter ending.Closes core.own old core m c.args.region c.in-Ok.at reached inside stands k c.in-Some.entry c.in-Some.ensures in
    let q = c.in-Ok-commit_entry.ensures.does (of core.own m) k.on _ k.station may (tidy ending.Closes core.own old core m c.args.region c.in-Ok.at reached inside stands k) stands in
    close_left core.own old core m c.args.region c.in-Ok.at reached inside stands k (g.V.Vault.contents c.commit_entry.new.own)
    (g.V.Vault.contents c.put_records.new.own) c.commit_entry.new.core _ q c.in-Fault.count c.in-Fault.ensures.does

pub returns-in-Fault-clause-counts : goal.returns-in-Fault-clause-counts
returns-in-Fault-clause-counts g c = counts_then _ _ _ c.in-Ok-commit_entry.ensures.counts c.in-Fault.ensures.counts.counts

pub returns-in-Fault-clause-told : goal.returns-in-Fault-clause-told
returns-in-Fault-clause-told g c = told_then c.args.core.now.own c.in-Fault.count _ _ _ c.in-Ok-commit_entry.ensures.counts c.in-Fault.ensures.counts.told
