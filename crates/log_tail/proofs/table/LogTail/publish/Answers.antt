use Rattle.std.proofs.Common.{rules, ◌+◌, length, ap}
use Rattle.log_tail.proofs.Runs.{publishes_all}
use Rattle.log_tail.proofs.table.LogTail.publish.Goals as goal

pub store-requires : goal.store-requires
store-requires c = (
  search rules,
  search rules,
  publishes_all _ _ c.write.new.seat.id c.args.pen.now.seat.me c.write.new.seat.me c.args.words.now _ c.write.ensures.stored c.requires.pen.2.0 c.requires.pen.2.1 c.requires.open c.requires.pen.2.2 (ap (λ k. k + length c.args.words.now) c.requires.pen.2.4),
)
