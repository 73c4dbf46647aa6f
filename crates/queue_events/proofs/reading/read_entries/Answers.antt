use Rattle.std.proofs.Common.{rules, sym, subst, arith}
use Rattle.rep_vault.specs.Contents.{Contents}
use Rattle.cluster_core.specs.declared.parts.Kept.{Kept}
use Rattle.queue_events.specs.Reading.{IsFrameAt, HasFrameAt, IsPiece}
use Rattle.queue_events.proofs.Taking.{next_entry}
use Rattle.queue_events.proofs.reading.read_entries.Goals as goal

pub read_entry-requires-clause-there : goal.read_entry-requires-clause-there
read_entry-requires-clause-there g c =
    let k : Kept = c.index-kept-at.result in
    let there = c.requires c.loop-at.at k c.loop-at-test.true in
    subst (λ (w : Contents). HasFrameAt w c.args.server k) (sym c.loop-at.invariant.same) (subst (HasFrameAt (g.V.Vault.contents c.args.own.now) c.args.server) (sym c.index-kept-at.is) there)

pub loop-at-preserved : goal.loop-at-preserved
loop-at-preserved g c =
    let so_far = c.loop-at.invariant in
    let k : Kept = c.index-kept-at.result in
    let frame = subst (λ (w : Contents). IsFrameAt w c.args.server k c.in_ok-read_entry.field-0) so_far.same c.in_ok-read_entry.ensures.entry in
    record {
      read = rw c.in_ok-push.ensures.ok (next_entry (g.V.Vault.contents c.args.own.now) c.args.server c.args.kept.now c.loop-at.at k c.loop-at.entries c.in_ok-read_entry.field-0 c.loop-at-test.true c.index-kept-at.is so_far.read frame);
      piece = subst (λ (w : Contents). IsPiece w c.args.server c.read_entry.new.piece) so_far.same c.in_ok-read_entry.ensures.piece;
      same = search rules;
      counts = λ kind. omega (arith, so_far.counts kind, c.in_ok-read_entry.ensures.tells.kept kind);
      planned = search rules;
    }
