use Rattle.std.proofs.Common.{rules}
use Rattle.log_tail.proofs.Steps.{splits}
use Rattle.log_tail.proofs.table.LogTail.reader.Goals as goal

pub split_seat-seat-requires : goal.split_seat-seat-requires
split_seat-seat-requires c = (search rules, search rules, splits _ c.args.pen.now.seat.id c.args.pen.now.seat.me.0)
