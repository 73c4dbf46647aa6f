use Rattle.std.proofs.Common.{arith}
use Rattle.rep_model.specs.Runs.{state_of}
use Rattle.script_lines.proofs.Numbers.{grown-new, grown-next, grown-above}
use Rattle.script_lines.proofs.Shown.{region_past}
use Rattle.script_lines.proofs.regions.region_lines.Goals as goal

pub loop-at-init : goal.loop-at-init
loop-at-init g c = λ e. grown-new _ _

pub loop-at-preserved : goal.loop-at-preserved
loop-at-preserved g c = λ e. grown-next _ _ _ _ _ _ (c.loop-at.invariant e) c.region_id.ensures (c.in_ok-numbered_line.ensures.text e)

pub returns : goal.returns
returns g c = record {
  text = λ e. grown-above _ _ _ 4096 _ _ (c.loop-at.invariant e) (omega arith) (λ r above. region_past c.args.cluster (state_of c.args.pair.now.journal) r (c.region_count.ensures.above e r above));
}
