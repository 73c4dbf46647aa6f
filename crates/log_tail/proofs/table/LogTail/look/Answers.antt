use Rattle.std.proofs.Common.{rules, ap, ◌∙◌}
use Rattle.log_tail.specs.declared.rule.Knows.{Knows}
use Rattle.log_tail.proofs.Steps.{checks, looks}
use Rattle.log_tail.proofs.table.LogTail.look.Goals as goal

pub load-closed-requires : goal.load-closed-requires
load-closed-requires c = (search rules, search rules, checks _ _ c.args.seat.now.id c.args.seat.now.me c.requires.reader.0 c.requires.reader.1)

pub load-length-requires : goal.load-length-requires
load-length-requires c = let found = c.load-closed.ensures.2.0 in (
  search rules,
  search rules,
  looks _ _ c.load-closed.new.seat.id c.load-closed.new.seat.me (ap (λ (v : Knows). v.reads) found ∙ c.requires.reader.0) (ap (λ (v : Knows). v.writes) found ∙ c.requires.reader.1) (ap (λ (v : Knows). v.capacity) found ∙ c.requires.reader.2),
)
