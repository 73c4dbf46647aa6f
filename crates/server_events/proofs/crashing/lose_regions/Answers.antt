use Rattle.std.proofs.Common.{◌+◌, ◌≡◌, List, Some, get_or, length, slice_get, ap, sym, ◌∙◌, subst}
use Rattle.std.proofs.lemmas.Option.{slice_get_read}
use Rattle.region_meta.specs.Regions.{Map}
use Rattle.region_meta.specs.Changes.{placed}
use Rattle.region_meta.specs.declared.region.Region.{Region}
use Rattle.rep_model.specs.Places.{after_death}
use Rattle.server_events.proofs.Losing.{IsLosing, region_is_there, placed_long, losing_goes_on}
use Rattle.server_events.proofs.crashing.lose_regions.Goals as goal

pub set_place-requires : goal.set_place-requires
set_place-requires c =
    let now : Map = c.loop-at.map in
    let region : Region = c.index-regions-at.result in
    let there : slice_get now.regions c.loop-at.at ≡ Some region =
    slice_get_read now.regions _ c.loop-at.at region (ap length c.regions-at-end.ensures ∙ sym c.loop-at.invariant.0) c.loop-at-test.true (c.index-regions-at.is ∙ ap (λ (rs : List Region). get_or rs c.loop-at.at region) c.regions.ensures) in
    region_is_there now c.loop-at.at region there

pub loop-at-preserved : goal.loop-at-preserved
loop-at-preserved c =
    let now : Map = c.loop-at.map in
    let region : Region = c.index-regions-at.result in
    let there : slice_get now.regions c.loop-at.at ≡ Some region =
    slice_get_read now.regions _ c.loop-at.at region (ap length c.regions-at-end.ensures ∙ sym c.loop-at.invariant.0) c.loop-at-test.true (c.index-regions-at.is ∙ ap (λ (rs : List Region). get_or rs c.loop-at.at region) c.regions.ensures) in
    let made : c.set_place.new.self ≡ placed region.number (after_death c.args.server region.place) now = c.set_place.ensures ∙ ap (λ p. placed region.number p now) c.after_death-place.ensures in (
      ap (λ (m : Map). length m.regions) made ∙ (placed_long region.number (after_death c.args.server region.place) now ∙ c.loop-at.invariant.0),
      λ numbered. subst (λ (m : Map). IsLosing c.args.server (c.loop-at.at + 1) m c.args.map.now) (sym made) (losing_goes_on c.args.server c.loop-at.at now c.args.map.now (c.loop-at.invariant.1 numbered) region there),
    )
