use Rattle.std.proofs.Common.{◌≡◌}
use Rattle.rep_vault.specs.Contents.{changed}
use Rattle.rep_vault.specs.Folders.{HasSlots, record_in}
use Rattle.rep_vault.proofs.records.fill.Given as goal

abbrev pub invariant-loop-change : goal.invariant-loop-change
invariant-loop-change l = record {
  slots : HasSlots l.change-iterator.rest.items l.records;
  made : changed l.change-iterator.rest.items (record_in l.records) ≡ changed l.fn.changes.items (record_in l.initial.records);
}
