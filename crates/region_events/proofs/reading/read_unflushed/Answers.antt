use Rattle.std.proofs.Common.{◌<◌, length, sym, subst, arith}
use Rattle.std.specs.Prelude.{All}
use Rattle.rep_vault.specs.Contents.{Contents}
use Rattle.cluster_core.specs.declared.parts.Shelf.{Shelf}
use Rattle.region_events.specs.Unflushed.{IsReadable}
use Rattle.region_events.proofs.reading.read_unflushed.Goals as goal

pub read_shelf-requires : goal.read_shelf-requires
read_shelf-requires g c =
    let old : Contents = g.V.Vault.contents c.args.own.now in
    let x : Shelf = c.shelf-item.result in
    let all = subst (All (IsReadable old c.args.region c.args.above)) (sym c.as_slice-shelf-items.ensures) c.requires in
    let within : c.loop-shelf.shelf-index < length c.as_slice-shelf-items.result.now = omega arith in
    let there = all c.loop-shelf.shelf-index x within in
    subst (λ (w : Contents). IsReadable w c.args.region c.args.above x) (sym c.loop-shelf.invariant.same) (subst (IsReadable old c.args.region c.args.above) (sym c.shelf-item.is) there)
