use Rattle.data_events.proofs.Typing.{write_framed, mark_framed, seq_is_some}
use Rattle.data_events.proofs.Written.{seat_host, wrote, told_by}
use Rattle.data_events.proofs.writing.write.Goals as goal

pub accept-done-requires-clause-stands : goal.accept-done-requires-clause-stands
accept-done-requires-clause-stands g c = λ st there.
    let s = c.requires.seated in
    seat_host c.args.core.now.own _ c.args.core.now s.1 c.args.edit.table c.args.edit.row c.args.seat.now.region c.args.seat.now.station s.3 s.2 s.5.seat st there

pub returns-clause-does : goal.returns-clause-does
returns-clause-does g c = λ way m reached pair stands may number.
    let framed = write_framed c.args.seat.now.region c.in-Some.seq c.mark.result c.args.edit c.in-Some.ensures.least c.in-Some.ensures.most (seq_is_some _ _ c.in-Some.ensures.is) c.in-Some.ensures.fits c.mark.ensures.least c.mark.ensures.most c.requires.typed c.requires.values in
    wrote way c.args.core.now.own _ _ c.args.core.now c.accept-done.new.core m c.args.edit.table c.args.edit.row c.args.edit.cells c.args.seat.now.region c.args.seat.now.station c.in-Some.seq c.args.ticket
    pair reached stands may number c.in-Some.ensures (mark_framed c.args.core.now.own _ _ _ c.mark.result c.mark.ensures.value framed)
    (c.accept-done.ensures.server may.seat.station.station may.seat.station.there) (c.accept-done.ensures.number may.seat.station.station may.seat.station.there) (c.accept-done.ensures.frame may.seat.station.station may.seat.station.there)
    c.accept-done.result c.put_reply.result c.mark.result c.current_log-log.result.server c.current_log-log.result.number c.mark.ensures.value c.current_log-log.ensures.server c.current_log-log.ensures.number c.put_reply.ensures c.accept-done.ensures.does

pub returns-clause-told : goal.returns-clause-told
returns-clause-told g c = told_by c.put_reply.result c.accept-done.result c.args.core.now.own c.current_log-log.result.server c.current_log-log.result.number c.args.seat.now.region c.in-Some.seq c.args.ticket _ _ c.put_reply.ensures c.accept-done.ensures.blamed
