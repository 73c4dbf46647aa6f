-- A delivery, form by form.
use Rattle.std.proofs.Common.{◌≡◌, ℕ, ◌+◌, ◌<◌, ◌≤◌, List, fold, rules, Ok, Err, Some, None, length, refl, ap, sym, subst, le_refl, arith}
use Rattle.rep_types.specs.declared.ids.Cluster.{Cluster}
use Rattle.rep_vault.specs.Contents.{Contents}
use Rattle.rep_model.specs.declared.machine.Form.{Form}
use Rattle.cluster_core.specs.declared.parts.ClusterCore.{ClusterCore}
use Rattle.queue_events.specs.Acks.{put_in}
use Rattle.queue_events.specs.Arriving.{MayArrive}
use Rattle.queue_events.specs.Delivering.{Delivers, DeliversOr}
use Rattle.queue_events.specs.Underway.{IsUnderway}
use Rattle.queue_events.proofs.Underway.{all_at, drop_end, begun, went, stopped_at, ended, fell_short, by_own, counts_then}
use Rattle.queue_events.proofs.delivering.arrive_all.Goals as goal

pub loop-form-init : goal.loop-form-init
loop-form-init g c =
    let own : Cluster = c.args.core.now.own in
    let old : Contents = g.V.Vault.contents c.args.own.now in (
      λ m way stands. subst (λ xs. IsUnderway own c.args.peer c.args.synchronous c.args.forms.now m old c.args.core.now xs 0) (sym c.new-acks.ensures.items) (begun own c.args.peer c.args.synchronous c.args.forms.now m old c.args.core.now way stands),
      refl,
      λ e. (refl, refl),
      record { kept = λ k. le_refl _; planned = refl },
    )

pub arrive-requires-clause-may : goal.arrive-requires-clause-may
arrive-requires-clause-may g c =
    let less : c.loop-form.form-index < length c.args.forms.now = omega arith in
    subst MayArrive (sym c.form-item.is) (all_at MayArrive c.args.forms.now c.loop-form.form-index c.form-item.result less c.requires.may)

pub returns-in-Ok-Stopped-clause-does : goal.returns-in-Ok-Stopped-clause-does
returns-in-Ok-Stopped-clause-does g c = λ m way stands.
    let own : Cluster = c.args.core.now.own in
    let forms : List Form = c.args.forms.now in
    let at : ℕ = c.loop-form.form-index in
    let less : c.loop-form.form-index < length c.args.forms.now = omega arith in
    let old : Contents = g.V.Vault.contents c.loop-form.own in
    let core : ClusterCore = c.loop-form.core in
    let new : Contents = g.V.Vault.contents c.arrive.new.own in
    let core' : ClusterCore = c.arrive.new.core in
    let u = c.loop-form.invariant.0 m way stands in
    let given = by_own core.own own c.args.peer c.args.synchronous c.form-item.result old new core core' (Ok c.in-Ok-Stopped.field-0) u.stands.own_is c.in-Ok-Stopped.ensures.does u.now u.midway u.stands in
    let a = rw c.in-Ok-Stopped.field-0-is at given in
    let d = stopped_at own c.args.peer c.args.synchronous forms m old core c.loop-form.acks.items at u c.form-item.result new core' c.in-Ok-Stopped.cause less c.form-item.is a in
    subst (λ n. Delivers own c.args.peer c.args.synchronous forms m new core' (record { arrived = n; acks = c.from_vec.result; stop = Some c.in-Ok-Stopped.cause })) (sym c.loop-form.invariant.1)
    (subst (λ xs. Delivers own c.args.peer c.args.synchronous forms m new core' (record { arrived = at; acks = xs; stop = Some c.in-Ok-Stopped.cause })) (sym c.from_vec.ensures) d)

pub loop-form-preserved : goal.loop-form-preserved
loop-form-preserved g c =
    let own : Cluster = c.args.core.now.own in
    let forms : List Form = c.args.forms.now in
    let at : ℕ = c.loop-form.form-index in
    let less : c.loop-form.form-index < length c.args.forms.now = omega arith in
    let old : Contents = g.V.Vault.contents c.loop-form.own in
    let core : ClusterCore = c.loop-form.core in
    let new : Contents = g.V.Vault.contents c.arrive.new.own in
    let core' : ClusterCore = c.arrive.new.core in (
      λ m way stands. (
          let u = c.loop-form.invariant.0 m way stands in
          let given = by_own core.own own c.args.peer c.args.synchronous c.form-item.result old new core core' (Ok c.in-Ok-Taken.field-0) u.stands.own_is c.in-Ok-Taken.ensures.does u.now u.midway u.stands in
          let a = rw c.in-Ok-Taken.field-0-is at given in
          let added : c.add_tickets.new.acks.items ≡ fold put_in c.loop-form.acks.items c.in-Ok-Taken.tickets = search rules in
          went own c.args.peer c.args.synchronous forms m old core c.loop-form.acks.items at u c.form-item.result new core' c.in-Ok-Taken.tickets c.add_tickets.new.acks.items less c.form-item.is added a),
      ap (λ n. n + 1) c.loop-form.invariant.1,
      λ e. absurd (omega arith),
      counts_then _ _ _ c.loop-form.invariant.3 c.in-Ok-Taken.ensures.counts,
    )

pub returns-clause-does : goal.returns-clause-does
returns-clause-does g c = λ m way stands.
    let own : Cluster = c.args.core.now.own in
    let forms : List Form = c.args.forms.now in
    let at : ℕ = c.loop-form.form-index in
    let end : length c.args.forms.now ≤ c.loop-form.form-index = omega arith in
    let last : Contents = g.V.Vault.contents c.loop-form.own in
    let core : ClusterCore = c.loop-form.core in
    let d = ended own c.args.peer c.args.synchronous forms m last core c.loop-form.acks.items at (c.loop-form.invariant.0 m way stands) (drop_end forms at end) in
    subst (λ n. Delivers own c.args.peer c.args.synchronous forms m last core (record { arrived = n; acks = c.from_vec-2.result; stop = None })) (sym c.loop-form.invariant.1)
    (subst (λ xs. Delivers own c.args.peer c.args.synchronous forms m last core (record { arrived = at; acks = xs; stop = None })) (sym c.from_vec-2.ensures) d)

pub returns-in-Err-clause-does : goal.returns-in-Err-clause-does
returns-in-Err-clause-does g c = λ m way stands.
    let own : Cluster = c.args.core.now.own in
    let u = c.loop-form.invariant.0 m way stands in
    let core : ClusterCore = c.loop-form.core in
    let given = by_own core.own own c.args.peer c.args.synchronous c.form-item.result (g.V.Vault.contents c.loop-form.own) (g.V.Vault.contents c.arrive.new.own) core c.arrive.new.core (Err c.in-Err.why) u.stands.own_is
    c.in-Err.ensures.does u.now u.midway u.stands in
    subst (λ e. DeliversOr own c.args.peer c.args.synchronous c.args.forms.now m (g.V.Vault.contents c.args.own.now) c.args.core.now (g.V.Vault.contents c.arrive.new.own) c.arrive.new.core (Err e)) (sym c.behind.ensures)
    (fell_short own c.args.peer c.args.synchronous c.form-item.result c.args.forms.now m u.now (g.V.Vault.contents c.args.own.now) (g.V.Vault.contents c.loop-form.own) (g.V.Vault.contents c.arrive.new.own) c.args.core.now core c.arrive.new.core
    c.in-Err.why c.loop-form.arrived c.loop-form.invariant.2 given)
