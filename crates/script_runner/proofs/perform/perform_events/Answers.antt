use Rattle.std.proofs.Common.{◌∙◌, length, refl, sym, ap, arith, add-zero, length-append}
use Rattle.rep_model.specs.Runs.{state_of}
use Rattle.script_runner.proofs.Performing.{SoFar-new, SoFar-push, SoFar-end}
use Rattle.script_runner.proofs.Serving.{event-taken}
use Rattle.script_runner.proofs.perform.perform_events.Goals as goal

pub step-requires-clause-served : goal.step-requires-clause-served
step-requires-clause-served g c =
    let m = state_of c.args.pair.now.journal in
    let own = c.loop-replies.invariant.0.own in
    let event_is = sym (c.in_ok-event.ensures.event m own (c.as_slice.ensures ∙ c.in_ok-live.ensures.asked) (c.as_slice-in-loop-replies.ensures ∙ c.loop-replies.invariant.0.answers)) ∙ c.in-Some.is in
    (event-taken c.args.command.now m own c.in-Some.event c.requires.served event_is).0

pub step-requires-clause-worded : goal.step-requires-clause-worded
step-requires-clause-worded g c =
    let m = state_of c.args.pair.now.journal in
    let own = c.loop-replies.invariant.0.own in
    let event_is = sym (c.in_ok-event.ensures.event m own (c.as_slice.ensures ∙ c.in_ok-live.ensures.asked) (c.as_slice-in-loop-replies.ensures ∙ c.loop-replies.invariant.0.answers)) ∙ c.in-Some.is in
    (event-taken c.args.command.now m own c.in-Some.event c.requires.served event_is).1

pub loop-replies-init : goal.loop-replies-init
loop-replies-init g c = rw c.new-replies.ensures (SoFar-new _ _ _, c.requires.usable, sym (add-zero _), omega arith, refl, refl)

pub loop-replies-preserved : goal.loop-replies-preserved
loop-replies-preserved g c =
    let m = state_of c.args.pair.now.journal in
    let so_far = c.loop-replies.invariant.0 in
    let grown = c.loop-replies.invariant.2 in
    let event_is = sym (c.in_ok-event.ensures.event m so_far.own (c.as_slice.ensures ∙ c.in_ok-live.ensures.asked) (c.as_slice-in-loop-replies.ensures ∙ so_far.answers)) ∙ c.in-Some.is in
    let few = (rw c.in-Some.is at c.in_ok-event.ensures.few) in
    let same = c.as_slice-in-loop-replies.ensures in (
      SoFar-push _ _ _ _ _ _ _ _ so_far event_is refl c.in-Ok.ensures.recorded c.in_ok-push.ensures.ok,
      c.in-Ok.ensures.usable,
      rw (c.in-Ok.ensures.recorded, c.in_ok-push.ensures.ok) (simp length-append (omega (arith, grown))),
      rw (c.in_ok-push.ensures.ok) (simp length-append (omega (arith, ap length same, few))),
      c.in-Ok.ensures.counts_a.planned ∙ c.loop-replies.invariant.4,
      c.in-Ok.ensures.counts_b.planned ∙ c.loop-replies.invariant.5,
    )

pub returns-clause-performs : goal.returns-clause-performs
returns-clause-performs g c =
    let m = state_of c.args.pair.now.journal in
    let own = c.loop-replies.invariant.0.own in
    let none = sym (c.in_ok-event.ensures.event m own (c.as_slice.ensures ∙ c.in_ok-live.ensures.asked) (c.as_slice-in-loop-replies.ensures ∙ c.loop-replies.invariant.0.answers)) ∙ c.in_default.is in
    SoFar-end _ _ _ _ _ c.loop-replies.invariant.0 none
