use Rattle.std.proofs.Common.{rules}
use Rattle.std.proofs.lemmas.Fn.{always_returns_same}
use Rattle.table_cells.specs.Entries.{entry_order}
use Rattle.table_cells.proofs.Adding.{place_stands, place_absent}
use Rattle.table_cells.proofs.Searching.{rising-searchable}
use Rattle.table_cells.proofs.sorted.place.Goals as goal

pub returns-clause-stands : goal.returns-clause-stands
returns-clause-stands c =
    let found = c.binary_search_by.ensures.position (λ e. entry_order e c.args.new.now) (always_returns_same _ _ _ (λ a r q k. search rules)) in
    place_stands c.args.new.now c.args.entries.now c.binary_search_by.result c.requires found

pub returns-clause-absent : goal.returns-clause-absent
returns-clause-absent c =
    let found = c.binary_search_by.ensures.position (λ e. entry_order e c.args.new.now) (always_returns_same _ _ _ (λ a r q k. search rules)) in
    place_absent c.args.new.now c.args.entries.now c.binary_search_by.result c.binary_search_by.ensures.bound (rising-searchable c.args.new.now c.args.entries.now c.requires) found
