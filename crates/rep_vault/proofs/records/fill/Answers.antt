use Rattle.std.proofs.Common.{Some, ap, sym, ◌∙◌, subst, is_some, true≢false, rules}
use Rattle.rep_vault.specs.Folders.{HasSlots}
use Rattle.rep_vault.proofs.Maps.{lent_none, puts_at}
use Rattle.rep_vault.proofs.Slots.{changed_one, first_slot, other_slots, still}
use Rattle.rep_vault.proofs.records.fill.Goals as goal

pub unreachable-requires : goal.unreachable-requires
unreachable-requires c =
    let m = c.loop-change.records in
    let change = c.in-Some.change in
    let rest = c.next.new.self.rest.items in
    let slots = subst (λ cs. HasSlots cs m) c.in-Some.ensures.steps.0 c.loop-change.invariant.slots in
    let none = lent_none change.key m c.get_mut.result c.in_default.is (rw c.as_str.ensures at c.get_mut.ensures.value) in
    true≢false (sym (first_slot change rest m slots) ∙ ap is_some none)

pub loop-change-preserved : goal.loop-change-preserved
loop-change-preserved c =
    let m = c.loop-change.records in
    let change = c.in-Some.change in
    let rest = c.next.new.self.rest.items in
    let m' = c.get_mut.follows.lender change.value in
    let slots = subst (λ cs. HasSlots cs m) c.in-Some.ensures.steps.0 c.loop-change.invariant.slots in
    let put = puts_at change.key (Some change.value) m m' (rw c.as_str.ensures at ((c.get_mut.follows.holds change.value).3 (search rules))) in
    record {
      slots = other_slots change rest m m' slots (still change.key change.value m m' put);
      made = changed_one change rest m m' put ∙ (rw c.in-Some.ensures.steps.0 at c.loop-change.invariant.made);
    }
