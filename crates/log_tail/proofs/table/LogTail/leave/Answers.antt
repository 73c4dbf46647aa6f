use Rattle.std.proofs.Common.{rules, ℕ, ap, ◌∙◌}
use Rattle.atomic_table.specs.Table.{Me}
use Rattle.log_tail.specs.declared.rule.Knows.{Knows}
use Rattle.log_tail.proofs.Steps.{joins, parts}
use Rattle.log_tail.proofs.table.LogTail.leave.Goals as goal

pub join_seat-requires : goal.join_seat-requires
join_seat-requires c = (search rules, search rules, search rules, search rules, joins _ c.args.pen.now.seat.id c.args.pen.now.seat.me.0 c.args.reader.seat.id c.args.reader.seat.me.0 c.requires.pen.2.0 c.requires.reader.2.0)

pub load-requires : goal.load-requires
load-requires c = let joined = c.join_seat.ensures.2 in (
  search rules,
  search rules,
  parts _ _ c.join_seat.new.seat.id c.join_seat.new.seat.me (ap (λ (m : Me ℕ Knows). m.0.reads) joined) (ap (λ (m : Me ℕ Knows). m.0.writes) joined ∙ c.requires.pen.2.0),
)
