use Rattle.std.proofs.Common.{rules}
use Rattle.log_tail.proofs.Steps.{closes}
use Rattle.log_tail.proofs.table.LogTail.close.Goals as goal

pub store-requires : goal.store-requires
store-requires c = (search rules, search rules, closes _ _ c.args.pen.now.seat.id c.args.pen.now.seat.me c.requires.2.0 c.requires.2.1)
