use Rattle.std.proofs.Common.{[], ◌∷◌, ◌++◌}
use Rattle.wal_reader.specs.Reading.{Gives}
use Rattle.log_split.specs.Held.{is_above}
use Rattle.log_split.proofs.Taking.{took_push, found_push}
use Rattle.log_split.proofs.split.take_entries.Goals as goal

pub loop-entry-preserved : goal.loop-entry-preserved
loop-entry-preserved c =
    let entry = c.in-Entry.entry in
    let so_far = c.loop-entry.invariant in
    let gives : Gives c.loop-entry.reader entry c.next.new.self = rw c.in-Entry.is at c.in_ok-entry.ensures.spelled in (
      so_far.0 ++ entry ∷ [],
      took_push _ _ _ so_far.0 entry so_far.1 gives,
      found_push (is_above c.args.region c.args.above) _ so_far.0 (entry ∷ []) _ _ so_far.2 c.in_ok-keep.ensures,
    )
