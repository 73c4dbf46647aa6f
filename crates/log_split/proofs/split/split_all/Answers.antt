use Rattle.std.proofs.Common.{rules, [], arith, ◌<◌, length}
use Rattle.log_split.specs.Held.{is_above}
use Rattle.log_split.proofs.Splitting.{hold_more, bad_here}
use Rattle.log_split.proofs.Taking.{found_push}
use Rattle.log_split.proofs.split.split_all.Goals as goal

pub returns-in_err-split_one-clause-bad : goal.returns-in_err-split_one-clause-bad
returns-in_err-split_one-clause-bad g c =
    let so_far = c.loop-log.invariant in
    let within : c.loop-log.log-index < length c.args.logs.now = omega arith in
    let told = rw so_far.kept at c.in_err-split_one.ensures.bad in
    let bad = bad_here _ c.args.server c.args.logs.now c.loop-log.log-index _ so_far.held.0 _ within so_far.held.1 told in
    search (rules, bad)

pub loop-log-preserved : goal.loop-log-preserved
loop-log-preserved g c =
    let so_far = c.loop-log.invariant in
    let more = c.in_ok-split_one.ensures in
    let within : c.loop-log.log-index < length c.args.logs.now = omega arith in
    let here = more.entries.0 in
    let holds = rw so_far.kept at more.entries.1 in
    record {
      held = (
        _,
        hold_more _ c.args.server c.args.logs.now c.loop-log.log-index _ so_far.held.0 here within so_far.held.1 holds,
        found_push (is_above c.args.region c.args.above) [] so_far.held.0 here _ _ so_far.held.2 more.entries.2,
      );
      kept = search rules;
      counts = λ k. omega (arith, so_far.counts k, more.fault.kept k);
      planned = search rules;
    }
