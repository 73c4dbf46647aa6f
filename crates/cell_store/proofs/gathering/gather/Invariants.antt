use Rattle.std.proofs.Common.{◌≡◌, take, All}
use Rattle.cell_store.specs.Steps.{AreHeld}
use Rattle.cell_store.proofs.Gathered.{Together, Counts}
use Rattle.cell_store.proofs.gathering.gather.Given as goal

abbrev pub invariant-loop-run : goal.invariant-loop-run
invariant-loop-run g l = record {
  together : Together (g.R.Rows.wants l.fn.rows) (g.V.Vault.contents l.fn.vault) l.fn.memory l.fn.runs l.run-index l.all;
  held : All (AreHeld (g.V.Vault.contents l.fn.vault)) (take l.run-index l.fn.runs);
  same : g.V.Vault.contents l.vault ≡ g.V.Vault.contents l.fn.vault;
  counts : Counts (g.V.Vault.tally l.fn.vault) (g.V.Vault.tally l.vault);
}
