use Rattle.std.proofs.Common.{◌≡◌, ◌++◌, List, length}
use Rattle.std.specs.List.{filter}
use Rattle.rep_types.specs.declared.entry.Entry.{Entry}
use Rattle.log_split.specs.Held.{is_above}
use Rattle.log_split.proofs.Taking.{Took}
use Rattle.log_split.proofs.split.take_entries.Given as goal

abbrev pub invariant-loop-entry : goal.invariant-loop-entry
invariant-loop-entry l =
    (es : List Entry) × Took l.initial.reader l.reader es × (l.found ≡ l.initial.found ++ filter (is_above l.region l.above) es)

abbrev pub decreases-loop-entry : goal.decreases-loop-entry
decreases-loop-entry l = length l.reader.left
