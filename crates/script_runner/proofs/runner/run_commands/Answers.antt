use Rattle.script_runner.proofs.Ending.{performed}
use Rattle.script_runner.proofs.runner.run_commands.Goals as goal

pub returns-in-Ok-clause-ok : goal.returns-in-Ok-clause-ok
returns-in-Ok-clause-ok g c = λ e. rw c.into_stores-stores.ensures.value (performed g.V.Vault.contents g.V.Vault.tally g.met.V.Vault.bounded _ _ _ _ _ _ c.into_stores-stores.ensures.legal c.into_stores-stores.ensures.stored c.into_stores-stores.ensures.covers_a c.into_stores-stores.ensures.covers_b c.into_stores-stores.ensures.told_a c.into_stores-stores.ensures.told_b (c.perform_and_write-status.ensures.ok e))

pub returns-in-Ok-clause-part : goal.returns-in-Ok-clause-part
returns-in-Ok-clause-part g c = λ e. rw c.into_stores-stores.ensures.value (performed g.V.Vault.contents g.V.Vault.tally g.met.V.Vault.bounded _ _ _ _ _ _ c.into_stores-stores.ensures.legal c.into_stores-stores.ensures.stored c.into_stores-stores.ensures.covers_a c.into_stores-stores.ensures.covers_b c.into_stores-stores.ensures.told_a c.into_stores-stores.ensures.told_b (c.perform_and_write-status.ensures.part e))

pub perform_and_write-status-requires-clause-planned_a : goal.perform_and_write-status-requires-clause-planned_a
perform_and_write-status-requires-clause-planned_a g c = λ k. rw c.in-Ok.ensures (c.requires.a_is_new.tally.planned k)

pub perform_and_write-status-requires-clause-planned_b : goal.perform_and_write-status-requires-clause-planned_b
perform_and_write-status-requires-clause-planned_b g c = λ k. rw c.in-Ok.ensures (c.requires.b_is_new.tally.planned k)
