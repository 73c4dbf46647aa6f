use Rattle.rep_vault.specs.Contents.{Contents}
use Rattle.rep_model.specs.State.{of}
use Rattle.cluster_core.specs.declared.parts.ClusterCore.{ClusterCore}
use Rattle.region_events.specs.declared.markers.Ending.TheVariants as ending
use Rattle.region_events.proofs.Marked.{end_refused, not_marked, stays_known, may_enter, marking_host, tidy, told_so}
use Rattle.region_events.proofs.OpeningEnded.{open_done}
use Rattle.region_events.proofs.markers.open_end.Goals as goal

pub returns-in-Err-clause-does : goal.returns-in-Err-clause-does
returns-in-Err-clause-does g c = λ way m reached inside stands.
    let core : ClusterCore = c.args.core.now in
    let old : Contents = g.V.Vault.contents c.args.own.now in
    end_refused way ending.Opens core.own c.args.region m old core c.in-Err.why (c.in-Err.ensures.state m old stands) stands

pub commit_entry-requires-clause-stands : goal.commit_entry-requires-clause-stands
commit_entry-requires-clause-stands g c =
    let core : ClusterCore = c.args.core.now in
    let old : Contents = g.V.Vault.contents c.args.own.now in
    let w = c.requires in
    marking_host ending.Opens core.own old core w.1 c.args.region c.in-Ok.at w.2 w.3 w.4 (c.in-Ok.ensures.state w.1 old w.4)

pub set_place-requires : goal.set_place-requires
set_place-requires g c =
    let core : ClusterCore = c.args.core.now in
    let old : Contents = g.V.Vault.contents c.args.own.now in
    let w = c.requires in
    let k = c.in-Ok.ensures.state w.1 old w.4 in
    let may = may_enter ending.Opens core.own old core w.1 c.args.region c.in-Ok.at w.2 w.3 w.4 k c.in-Some.entry c.in-Some.ensures in
    let q = c.in-Ok-commit_entry.ensures.does (of core.own w.1) k.on _ k.station may (tidy ending.Opens core.own old core w.1 c.args.region c.in-Ok.at w.2 w.3 w.4 k) w.4 in
    stays_known ending.Opens core.own old core w.1 c.args.region c.in-Ok.at w.2 w.3 w.4 k c.in-Some.entry c.in-Some.ensures (g.V.Vault.contents c.commit_entry.new.own) c.commit_entry.new.core _ q

pub returns-in-Ok-commit_entry-clause-does : goal.returns-in-Ok-commit_entry-clause-does
returns-in-Ok-commit_entry-clause-does g c = λ way m reached inside stands.
    let core : ClusterCore = c.args.core.now in
    let old : Contents = g.V.Vault.contents c.args.own.now in
    let k = c.in-Ok.ensures.state m old stands in
    let may = may_enter ending.Opens core.own old core m c.args.region c.in-Ok.at reached inside stands k c.in-Some.entry c.in-Some.ensures in
    let q = c.in-Ok-commit_entry.ensures.does (of core.own m) k.on _ k.station may (tidy ending.Opens core.own old core m c.args.region c.in-Ok.at reached inside stands k) stands in
    let left : ClusterCore = c.commit_entry.new.core in
    open_done core.own old core m c.args.region c.in-Ok.at reached inside stands k c.in-Some.entry c.in-Some.ensures
    (g.V.Vault.contents c.commit_entry.new.own) left _ _ c.current_log-log.result.server c.current_log-log.ensures.server
    (λ i. record left { map = c.set_place.ensures i }) q

pub returns-in-Err-commit_entry-clause-does : goal.returns-in-Err-commit_entry-clause-does
returns-in-Err-commit_entry-clause-does g c = λ way m reached inside stands.
    let core : ClusterCore = c.args.core.now in
    let old : Contents = g.V.Vault.contents c.args.own.now in
    let k = c.in-Ok.ensures.state m old stands in
    let may = may_enter ending.Opens core.own old core m c.args.region c.in-Ok.at reached inside stands k c.in-Some.entry c.in-Some.ensures in
    let q = c.in-Err-commit_entry.ensures.does (of core.own m) k.on _ k.station may (tidy ending.Opens core.own old core m c.args.region c.in-Ok.at reached inside stands k) stands in
    not_marked ending.Opens core.own old core m c.args.region c.in-Ok.at reached inside stands k
    (g.V.Vault.contents c.commit_entry.new.own) c.commit_entry.new.core c.current_log-log.result.server c.current_log-log.result.number c.current_log-log.ensures.server c.current_log-log.ensures.number
    c.in-Err-commit_entry.why c.unmarked.result c.unmarked.ensures q

pub returns-in-Err-commit_entry-clause-told : goal.returns-in-Err-commit_entry-clause-told
returns-in-Err-commit_entry-clause-told g c = told_so c.args.core.now.own c.current_log-log.result.server c.current_log-log.result.number c.in-Err-commit_entry.why c.unmarked.result _ _ c.unmarked.ensures c.in-Err-commit_entry.ensures.told
