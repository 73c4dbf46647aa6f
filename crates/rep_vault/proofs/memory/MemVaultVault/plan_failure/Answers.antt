use Rattle.rep_vault.proofs.Runs.{plans_one, plans_ahead, same_tally, same_ahead, room}
use Rattle.rep_vault.proofs.memory.MemVaultVault.plan_failure.Goals as goal

pub plan-requires-clause-room : goal.plan-requires-clause-room
plan-requires-clause-room c =
    room c.args.call c.args.self.now.plans c.requires.room

pub returns-clause-ok : goal.returns-clause-ok
returns-clause-ok c =
    plans_one c.args.call c.args.nth c.args.bytes c.args.self.now.plans c.plan.new.self c.plan.result c.plan.ensures.ok

pub returns-clause-err : goal.returns-clause-err
returns-clause-err c =
    same_tally c.args.self.now.plans c.plan.new.self c.plan.result c.plan.ensures.err

pub returns-clause-plans : goal.returns-clause-plans
returns-clause-plans c =
    plans_ahead c.args.call c.args.nth c.args.bytes c.args.self.now.plans c.plan.new.self c.plan.result c.plan.ensures.ok

pub returns-clause-stays : goal.returns-clause-stays
returns-clause-stays c =
    same_ahead c.args.self.now.plans c.plan.new.self c.plan.result c.plan.ensures.err
