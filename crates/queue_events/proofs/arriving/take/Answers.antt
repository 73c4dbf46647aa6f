-- A form at its seat, by what became of its entry.
use Rattle.std.proofs.Common.{rules, ◌≤◌, sym, subst}
use Rattle.wal_entry.specs.Framed.{IsFramed}
use Rattle.rep_vault.specs.Contents.{Contents}
use Rattle.rep_model.specs.State.{of}
use Rattle.cluster_core.specs.declared.parts.ClusterCore.{ClusterCore}
use Rattle.queue_events.proofs.Arrivals.{seat_host, entry_framed, taken}
use Rattle.queue_events.proofs.Telling.{told_by}
use Rattle.queue_events.proofs.arriving.take.Goals as goal

pub commit_entry-done-requires-clause-stands : goal.commit_entry-done-requires-clause-stands
commit_entry-done-requires-clause-stands g c = λ st there.
    let s = c.requires.seated in
    seat_host c.args.core.now.own _ c.args.core.now s.0 c.args.form.now.edit.table c.args.form.now.edit.row c.args.seat.now.region c.args.seat.now.station s.1 s.3 st there

pub returns-clause-does : goal.returns-clause-does
returns-clause-does g c = λ m way stands k.
    let own = c.args.core.now.own in
    let old : Contents = g.V.Vault.contents c.args.own.now in
    let core : ClusterCore = c.args.core.now in
    let least : 1 ≤ c.args.peer = search rules in
    let most : c.args.peer ≤ 4 = search rules in
    let framed = entry_framed c.args.form.now c.args.peer c.args.seat.now.region c.in-Some.seq core.index c.requires.may least most c.in-Some.ensures in
    taken own old core m c.args.form.now c.args.peer c.args.seat.now.region c.args.seat.now.station c.in-Some.seq way stands k c.in-Some.ensures framed
    (g.V.Vault.contents c.commit_entry-done.new.own) c.commit_entry-done.new.core c.commit_entry-done.result c.arrived_by.result c.in-Ok.entry c.current_log-log.result.server c.current_log-log.result.number c.in-Ok.ensures
    c.current_log-log.ensures.server c.current_log-log.ensures.number c.arrived_by.ensures (λ may. c.commit_entry-done.ensures.does (of own m) k.on _ k.station may way.orderly stands)

pub returns-clause-told : goal.returns-clause-told
returns-clause-told g c = told_by c.args.core.now.own c.current_log-log.result.server c.current_log-log.result.number c.commit_entry-done.result c.arrived_by.result _ _ c.arrived_by.ensures c.commit_entry-done.ensures.told

pub commit_entry-done-requires-clause-framed : goal.commit_entry-done-requires-clause-framed
commit_entry-done-requires-clause-framed g c =
    let least : 1 ≤ c.args.peer = search rules in
    let most : c.args.peer ≤ 4 = search rules in
    let framed = entry_framed c.args.form.now c.args.peer c.args.seat.now.region c.in-Some.seq c.args.core.now.index c.requires.may least most c.in-Some.ensures in
    subst IsFramed (sym c.in-Ok.ensures) framed.framed
