use Rattle.std.proofs.Common.{◌≡◌, ◌<◌, ℕ, true, is_some, get_or, ap, sym, ◌∙◌, subst}
use Rattle.std.proofs.lemmas.List.{get_or_default}
use borrow.Author.Count.{below_more}
use Rattle.std.specs.BTreeMap.{get_by_text}
use Rattle.rep_vault.specs.declared.store.Change.{Change}
use Rattle.rep_vault.proofs.Slots.{kept_then}
use Rattle.rep_vault.proofs.records.make_slots.Goals as goal

pub loop-change-preserved : goal.loop-change-preserved
loop-change-preserved c =
    let P : ℕ → Type 0 = λ j. (d : Change) → is_some (get_by_text c.make_slot.new.records (get_or c.args.changes.now j d).key) ≡ true in
    let below : (j : ℕ) → j < c.loop-change.change-index → P j = λ j l d. c.make_slot.ensures.slots.each (get_or c.args.changes.now j d).key (c.loop-change.invariant.made j d l) in
    let here : P c.loop-change.change-index = λ d.
    let same : get_or c.args.changes.now c.loop-change.change-index d ≡ c.change-item.result = get_or_default c.args.changes.now c.loop-change.change-index d c.change-item.result c.loop-change-test.true ∙ sym c.change-item.is in
    subst (λ t. is_some (get_by_text c.make_slot.new.records t) ≡ true) (c.as_str.ensures ∙ ap (λ (x : Change). x.key) (sym same)) c.in_ok-make_slot.ensures.made in
    record {
      made = λ j d l. below_more P c.loop-change.change-index below here j l d;
      kept = kept_then _ _ _ c.loop-change.invariant.kept c.make_slot.ensures.kept;
    }
