use Rattle.region_events.proofs.ClosingBegun.{close_no_region, close_wrong}
use Rattle.region_events.proofs.closing.server_of.Goals as goal

pub returns-in-None-clause-refused : goal.returns-in-None-clause-refused
returns-in-None-clause-refused c = λ m same. close_no_region c.args.core.now.own c.args.core.now.map c.args.number m same c.in-None.ensures

pub returns-in-None-on_at-clause-refused : goal.returns-in-None-on_at-clause-refused
returns-in-None-on_at-clause-refused c = λ m same. close_wrong c.args.core.now.own c.args.core.now.map c.args.number m same c.in-Some.have c.in-Some.ensures c.in-None-on_at.ensures
