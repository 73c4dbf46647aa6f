use Rattle.std.proofs.Common.{◌≡◌, List, ◌∷◌, length, ap, sym, subst, arith}
use Rattle.std.specs.Prelude.{◌||◌}
use Rattle.std.specs.List.{list_any}
use Rattle.store_file.specs.declared.cell.RunCell.{RunCell}
use Rattle.cell_store.specs.Cells.{AreApart}
use Rattle.cell_store.proofs.Places.{goes_on}
use Rattle.cell_store.proofs.placing.add_all.Goals as goal

pub loop-new-preserved : goal.loop-new-preserved
loop-new-preserved c =
    let rest = c.next.new.self.rest.items in
    let taken : c.loop-new.new-iterator.rest.items ≡ c.in-Some.new ∷ rest = c.in-Some.ensures.steps.0 in
    let longer : length c.loop-new.new-iterator.rest.items ≡ length (c.in-Some.new ∷ rest) = ap length taken in
    let all = c.into_iter-new-iterator.result.rest.items in
    let apart : AreApart (λ test. list_any test c.args.cells.now.items || list_any test all)
    = subst (λ (ds : List RunCell). AreApart (λ test. list_any test c.args.cells.now.items || list_any test ds)) (sym c.into_iter-new-iterator.ensures.into_iter_gives.0) c.requires.apart in
    record {
      next = tt;
      ends = tt;
      room = omega (arith, longer, c.add.ensures.len, c.add.ensures.capacity, c.loop-new.invariant.room);
      placing = goes_on c.args.cells.now.items all c.loop-new.cells.items rest c.in-Some.new c.loop-new.new-iterator.rest.items c.add.new.cells.items apart taken c.add.ensures.items c.loop-new.invariant.placing;
    }
