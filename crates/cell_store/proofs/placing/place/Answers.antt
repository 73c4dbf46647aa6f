use Rattle.std.proofs.Common.{rules}
use Rattle.std.proofs.lemmas.Fn.{always_returns_same}
use Rattle.store_file.specs.Order.{run_order}
use Rattle.cell_store.proofs.Places.{place_stands, place_absent}
use Rattle.cell_store.proofs.placing.place.Goals as goal

pub returns-clause-stands : goal.returns-clause-stands
returns-clause-stands c =
    let found = c.binary_search_by.ensures.position (λ e. run_order e c.args.new.now) (always_returns_same _ _ _ (λ a r q k. search rules)) in
    place_stands c.args.new.now c.args.cells.now c.binary_search_by.result c.requires c.binary_search_by.ensures.bound found

pub returns-clause-absent : goal.returns-clause-absent
returns-clause-absent c =
    let found = c.binary_search_by.ensures.position (λ e. run_order e c.args.new.now) (always_returns_same _ _ _ (λ a r q k. search rules)) in
    place_absent c.args.new.now c.args.cells.now c.binary_search_by.result c.requires c.binary_search_by.ensures.bound found
