use Rattle.std.proofs.Common.{◌≡◌, ◌∷◌, length, ap, sym, ◌∙◌, arith}
use Rattle.table_cells.specs.Entries.{add_all}
use Rattle.table_cells.proofs.Adding.{add-rising}
use Rattle.table_cells.proofs.sorted.add_all.Goals as goal

pub loop-new-preserved : goal.loop-new-preserved
loop-new-preserved c =
    let rest = c.next.new.self.rest.items in
    let taken : c.loop-new.new-iterator.rest.items ≡ c.in-Some.new ∷ rest = c.in-Some.ensures.steps.0 in
    let longer : length c.loop-new.new-iterator.rest.items ≡ length (c.in-Some.new ∷ rest) = ap length taken in
    record {
      next = tt;
      ends = tt;
      rising = rw c.add.ensures.items (add-rising c.in-Some.new c.loop-new.entries.items c.loop-new.invariant.rising);
      room = omega (arith, longer, c.add.ensures.len, c.add.ensures.capacity, c.loop-new.invariant.room);
      kept = ap (λ es. add_all es rest) c.add.ensures.items ∙ ap (add_all c.loop-new.entries.items) (sym taken) ∙ c.loop-new.invariant.kept;
    }
