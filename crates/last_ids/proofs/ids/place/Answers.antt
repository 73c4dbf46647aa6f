use Rattle.std.proofs.Common.{rules}
use Rattle.std.proofs.lemmas.Fn.{always_returns_same}
use Rattle.std.specs.Ordering.{nat_cmp}
use Rattle.last_ids.proofs.Placing.{place_stands, place_found, place_absent, place_none}
use Rattle.last_ids.proofs.Searching.{rising-searchable}
use Rattle.last_ids.proofs.ids.place.Goals as goal

pub returns-clause-stands : goal.returns-clause-stands
returns-clause-stands c =
    let found = c.binary_search_by.ensures.position (λ x. nat_cmp x.region c.args.new.now.region) (always_returns_same _ _ _ (λ a r q k. search rules)) in
    place_stands c.args.new.now c.args.ids.now c.binary_search_by.result c.requires found

pub returns-clause-found : goal.returns-clause-found
returns-clause-found c =
    let found = c.binary_search_by.ensures.position (λ x. nat_cmp x.region c.args.new.now.region) (always_returns_same _ _ _ (λ a r q k. search rules)) in
    place_found c.args.new.now c.args.ids.now c.binary_search_by.result c.requires found

pub returns-clause-absent : goal.returns-clause-absent
returns-clause-absent c =
    let found = c.binary_search_by.ensures.position (λ x. nat_cmp x.region c.args.new.now.region) (always_returns_same _ _ _ (λ a r q k. search rules)) in
    place_absent c.args.new.now c.args.ids.now c.binary_search_by.result c.binary_search_by.ensures.bound (rising-searchable c.args.new.now.region c.args.ids.now c.requires) found

pub returns-clause-none : goal.returns-clause-none
returns-clause-none c =
    let found = c.binary_search_by.ensures.position (λ x. nat_cmp x.region c.args.new.now.region) (always_returns_same _ _ _ (λ a r q k. search rules)) in
    place_none c.args.new.now c.args.ids.now c.binary_search_by.result (rising-searchable c.args.new.now.region c.args.ids.now c.requires) found
