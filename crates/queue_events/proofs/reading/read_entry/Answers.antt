use Rattle.queue_events.proofs.Pieces.{begins, given_frame}
use Rattle.queue_events.proofs.reading.read_entry.Goals as goal

pub next_entry-requires : goal.next_entry-requires
next_entry-requires g c =
    let p = c.in_ok-turn.ensures.piece in
    let h = c.requires.there in
    let first = begins (g.V.Vault.contents c.args.own.now) c.args.server c.turn.new.piece c.args.kept.now h p.0 p.1 in
    (h.0, first.0, h.1.framed, first.1)

pub returns-clause-entry : goal.returns-clause-entry
returns-clause-entry g c =
    let p = c.in_ok-turn.ensures.piece in
    let next = c.in_ok-next_entry.ensures in
    (given_frame (g.V.Vault.contents c.args.own.now) c.args.server c.turn.new.piece c.args.kept.now c.in_ok-next_entry.field-0 c.next_entry.new.reader c.requires.there p.0 p.1 next.given next.past).0

pub returns-clause-piece : goal.returns-clause-piece
returns-clause-piece g c =
    let p = c.in_ok-turn.ensures.piece in
    let next = c.in_ok-next_entry.ensures in
    (given_frame (g.V.Vault.contents c.args.own.now) c.args.server c.turn.new.piece c.args.kept.now c.in_ok-next_entry.field-0 c.next_entry.new.reader c.requires.there p.0 p.1 next.given next.past).1
