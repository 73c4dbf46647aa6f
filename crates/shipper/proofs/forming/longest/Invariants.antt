use Rattle.std.proofs.Common.{◌≡◌, ◌+◌, true, take}
use Rattle.shipper.specs.Batches.{gate_of, IsBatch, Reaches}
use Rattle.shipper.proofs.Longest.{bytes}
use Rattle.shipper.proofs.forming.longest.Given as goal

abbrev pub invariant-loop-entry : goal.invariant-loop-entry
invariant-loop-entry l = record {
  counted : l.entries ≡ l.entry-index;
  batch : IsBatch (gate_of l.serial l.view.cluster l.view.barriers.now l.view.last.now) l.most l.queue l.entry-index;
  room : l.room + bytes l.entry-index l.queue ≡ 65536;
  reached : l.serial ≡ true → Reaches l.so_far (take l.entry-index l.queue);
}
