use Rattle.std.proofs.Common.{◌≡◌, ◌≤◌, List, take}
use Rattle.std.specs.List.{filter}
use Rattle.rep_types.specs.declared.entry.Entry.{Entry}
use Rattle.rep_types.specs.declared.state.Call.{Call}
use Rattle.log_split.specs.Held.{is_above}
use Rattle.log_split.specs.Logs.{HoldAll}
use Rattle.log_split.proofs.split.split_all.Given as goal

abbrev pub invariant-loop-log : goal.invariant-loop-log
invariant-loop-log g l = record {
  held : (all : List Entry) × HoldAll (g.V.Vault.contents l.initial.vault) l.server (take l.log-index l.logs) all × (l.found ≡ filter (is_above l.region l.above) all);
  kept : g.V.Vault.contents l.vault ≡ g.V.Vault.contents l.initial.vault;
  counts : (k : Call) → (g.V.Vault.tally l.initial.vault).faults k ≤ (g.V.Vault.tally l.vault).faults k;
  planned : (g.V.Vault.tally l.vault).planned ≡ (g.V.Vault.tally l.initial.vault).planned;
}
