use Rattle.std.proofs.Common.{◌≡◌, IfOk, subst}
use Rattle.rep_types.specs.declared.view.SideLine.{SideLine}
use Rattle.pair_core.proofs.SeenSide.{core_is_side}
use Rattle.pair_core.proofs.side_views.side_line.Goals as goal

pub returns : goal.returns
returns c = record {
  seen = λ way k m reached here stands. subst (λ (w : SideLine). IfOk c.core_view.result (λ line. line ≡ w)) (core_is_side way c.args.core.now.own k c.args.core.now m reached here stands) c.core_view.ensures;
}
