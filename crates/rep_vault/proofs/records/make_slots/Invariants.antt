use Rattle.std.proofs.Common.{◌≡◌, ◌<◌, ℕ, true, is_some, get_or}
use Rattle.std.specs.BTreeMap.{get_by_text}
use Rattle.rep_vault.specs.declared.store.Change.{Change}
use Rattle.rep_vault.specs.Folders.{KeepsRecords}
use Rattle.rep_vault.proofs.records.make_slots.Given as goal

abbrev pub invariant-loop-change : goal.invariant-loop-change
invariant-loop-change l = record {
  made : (j : ℕ) (d : Change) → j < l.change-index → is_some (get_by_text l.records (get_or l.changes j d).key) ≡ true;
  kept : KeepsRecords l.initial.records l.records;
}
