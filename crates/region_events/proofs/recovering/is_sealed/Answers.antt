use Rattle.std.proofs.Common.{◌∙◌}
use Rattle.region_events.proofs.Readable.{seal_known, seal_unknown}
use Rattle.region_events.proofs.recovering.is_sealed.Goals as goal

pub returns-in-Some : goal.returns-in-Some
returns-in-Some c = λ files side stand.
    let k = c.in-Some.ensures.state files side stand in
    seal_known _ k.server c.station_sealed.result k.known (c.station_sealed.ensures k.station k.there ∙ k.stands.sealed)

pub returns-in-None : goal.returns-in-None
returns-in-None c = λ files side stand. seal_unknown _ (c.in-None.ensures.state files side stand)
