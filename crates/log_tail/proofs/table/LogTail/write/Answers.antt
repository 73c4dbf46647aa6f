use Rattle.std.proofs.Common.{rules}
use Rattle.log_tail.proofs.Runs.{stores}
use Rattle.log_tail.proofs.table.LogTail.write.Goals as goal

pub store-requires : goal.store-requires
store-requires c = (search rules, search rules, stores _ _ c.loop-i.seat.id c.args.seat.now.me c.loop-i.seat.me c.args.words.now c.args.from c.loop-i.i _ c.loop-i.invariant.1 c.requires.pen.0 c.requires.pen.1 c.requires.pen.2 c.requires.place (search rules) c.requires.room)
