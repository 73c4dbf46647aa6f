use Rattle.std.proofs.Common.{sym, ◌∙◌, subst}
use Rattle.std.specs.Prelude.{All}
use Rattle.queue_events.specs.Reading.{HasFrameAt}
use Rattle.queue_events.proofs.Sources.{logs_kept, batch_have}
use Rattle.queue_events.proofs.sending.next_flight.Goals as goal

pub read_entries-requires : goal.read_entries-requires
read_entries-requires g c =
    let k = c.requires.sendable in
    let own = c.args.core.now.own in
    let have = batch_have own (g.V.Vault.contents c.args.own.now) c.args.core.now k.1 k.2 k.3 k.4 c.args.peer c.args.server k.5 (logs_kept own k.3 k.1 k.2) c.args.most in
    subst (All (HasFrameAt (g.V.Vault.contents c.args.own.now) c.args.server)) (sym (c.as_slice.ensures ∙ c.in_ok-kept.ensures)) have
