use Rattle.std.proofs.Common.{sym, length, arith}
use Rattle.std.specs.List.{position_or_len}
use Rattle.rep_model.proofs.Replacing.{at_place, no_place}
use Rattle.queue_events.specs.Acks.{is_above}
use Rattle.queue_events.proofs.Merging.{place_within, end_is}
use Rattle.queue_events.proofs.acks.place.Goals as goal

pub returns-in-Some-clause-at : goal.returns-in-Some-clause-at
returns-in-Some-clause-at c = (at_place (position_or_len (is_above c.args.ticket) c.args.acks.now) (length c.args.acks.now) c.in-Some.at (sym c.in-Some.ensures)).0

pub returns-in-Some-clause-within : goal.returns-in-Some-clause-within
returns-in-Some-clause-within c = let is = at_place (position_or_len (is_above c.args.ticket) c.args.acks.now) (length c.args.acks.now) c.in-Some.at (sym c.in-Some.ensures) in omega (arith, is.0, is.1)

pub returns-in-None-clause-at : goal.returns-in-None-clause-at
returns-in-None-clause-at c = end_is _ _ (no_place (position_or_len (is_above c.args.ticket) c.args.acks.now) (length c.args.acks.now) (sym c.in-None.ensures)) (place_within c.args.ticket c.args.acks.now)
