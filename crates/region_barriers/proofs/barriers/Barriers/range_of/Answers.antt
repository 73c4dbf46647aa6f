use Rattle.region_barriers.proofs.Ranges.{range_found}
use Rattle.region_barriers.proofs.barriers.Barriers.range_of.Goals as goal

pub returns-clause-found : goal.returns-clause-found
returns-clause-found c =
    let within = rw c.as_slice-barriers.ensures at c.reached-reached.ensures.within in
    let parts = rw c.as_slice-barriers.ensures at c.reached-reached.ensures.parts in
    rw (← c.self.view_is, c.or.ensures, c.copied.ensures, c.get.ensures.value, c.as_slice-barriers.ensures)
    (range_found _ c.args.seq c.reached-reached.result c.if-reached-eq0.false within parts)
