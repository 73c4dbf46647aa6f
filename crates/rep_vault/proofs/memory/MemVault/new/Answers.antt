use Rattle.rep_vault.proofs.Runs.{counts_none, none_planned, none_ahead}
use Rattle.rep_vault.proofs.Contents.{is_new}
use Rattle.rep_vault.proofs.memory.MemVault.new.Goals as goal

pub returns-clause-fresh : goal.returns-clause-fresh
returns-clause-fresh c = record {
  contents = is_new c.new-folders.result c.add_folder.new.folders c.add_folder-2.new.folders c.new.result c.new-folders.ensures.empty c.new.ensures.empty c.in_ok-add_folder.ensures.ok c.in_ok-add_folder-2.ensures.ok;
  tally = counts_none c.new-2.result c.new-2.ensures.faults c.new-2.ensures.planned;
}

pub returns-clause-planned : goal.returns-clause-planned
returns-clause-planned c = none_planned c.new-2.result c.new-2.ensures.planned

pub returns-clause-ahead : goal.returns-clause-ahead
returns-clause-ahead c = none_ahead c.new-2.result c.new-2.ensures.none
