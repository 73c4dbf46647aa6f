use Rattle.std.proofs.Common.{◌≡◌, ◌≤◌}
use Rattle.rep_types.specs.declared.state.Call.{Call}
use Rattle.region_events.proofs.reading.read_unflushed.Given as goal

abbrev pub invariant-loop-shelf : goal.invariant-loop-shelf
invariant-loop-shelf g l = record {
  same : g.V.Vault.contents l.own ≡ g.V.Vault.contents l.initial.own;
  counts : (k : Call) → (g.V.Vault.tally l.initial.own).faults k ≤ (g.V.Vault.tally l.own).faults k;
  planned : (g.V.Vault.tally l.own).planned ≡ (g.V.Vault.tally l.initial.own).planned;
}
