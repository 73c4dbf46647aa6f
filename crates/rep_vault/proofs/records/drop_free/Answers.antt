use Rattle.rep_vault.proofs.Slots.{kept_then}
use Rattle.rep_vault.proofs.records.drop_free.Goals as goal

pub loop-change-preserved : goal.loop-change-preserved
loop-change-preserved c = kept_then _ _ _ c.loop-change.invariant c.drop_one.ensures
