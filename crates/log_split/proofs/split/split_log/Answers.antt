use Rattle.log_split.specs.Held.{is_above}
use Rattle.log_split.proofs.Once.{all_due, bad_due}
use Rattle.log_split.proofs.split.split_log.Goals as goal

pub returns-clause-all : goal.returns-clause-all
returns-clause-all g c =
    let a = c.args in
    let is = c.split_all.ensures in
    λ all. all_due (g.V.Vault.contents a.vault.now) a.server a.logs.now (is_above a.region a.above) c.split_all.result all is.entries is.bad

pub returns-clause-first : goal.returns-clause-first
returns-clause-first g c =
    let a = c.args in
    let is = c.split_all.ensures in
    λ log at rule. bad_due (g.V.Vault.contents a.vault.now) a.server a.logs.now (is_above a.region a.above) c.split_all.result log at rule is.entries is.bad
