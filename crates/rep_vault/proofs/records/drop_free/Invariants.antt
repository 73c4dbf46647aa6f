use Rattle.rep_vault.specs.Folders.{KeepsRecords}
use Rattle.rep_vault.proofs.records.drop_free.Given as goal

abbrev pub invariant-loop-change : goal.invariant-loop-change
invariant-loop-change l = KeepsRecords l.initial.records l.records
