use Rattle.std.proofs.Common.{rules, ◌≡◌, length, take}
use Rattle.log_tail.proofs.Runs.{fetches}
use Rattle.log_tail.proofs.table.LogTail.read.Goals as goal

pub load-requires : goal.load-requires
load-requires c = let done : length (take c.loop-i.i c.loop-i.out) ≡ c.loop-i.i = search rules in (
  search rules,
  search rules,
  fetches _ _ c.loop-i.seat.id c.args.seat.now.me c.loop-i.seat.me (take c.loop-i.i c.loop-i.out) c.args.from c.loop-i.i c.args.count c.loop-i.invariant.1 done c.requires.reader.0 c.requires.reader.1 c.requires.place (search rules) c.requires.seen.0,
)
