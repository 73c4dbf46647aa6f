use Rattle.std.proofs.Common.{◌≡◌, ◌≤◌, take}
use Rattle.rep_types.specs.declared.state.Call.{Call}
use Rattle.queue_events.specs.Reading.{AreFramesAt, IsPiece}
use Rattle.queue_events.proofs.reading.read_entries.Given as goal

abbrev pub invariant-loop-at : goal.invariant-loop-at
invariant-loop-at g l = record {
  read : AreFramesAt (g.V.Vault.contents l.initial.own) l.server (take l.at l.kept) l.entries;
  piece : IsPiece (g.V.Vault.contents l.initial.own) l.server l.piece;
  same : g.V.Vault.contents l.own ≡ g.V.Vault.contents l.initial.own;
  counts : (k : Call) → (g.V.Vault.tally l.initial.own).faults k ≤ (g.V.Vault.tally l.own).faults k;
  planned : (g.V.Vault.tally l.own).planned ≡ (g.V.Vault.tally l.initial.own).planned;
}
