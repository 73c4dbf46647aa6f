use Rattle.std.proofs.Common.{◌≡◌, ◌++◌, List, ℕ, OnOk, sym, ◌∙◌, subst}
use Rattle.rep_model.specs.Runs.{state_of}
use Rattle.script_lines.proofs.Shown.{region_some, region_none}
use Rattle.script_lines.proofs.regions.numbered_line.Goals as goal

pub returns-in-Some : goal.returns-in-Some
returns-in-Some g c = record {
  text = λ e. subst (λ (t : List ℕ). OnOk c.region_line-in-Some.result (c.region_line-in-Some.new.out.items ≡ c.args.out.now.items ++ t)) (region_some c.args.cluster (state_of c.args.pair.now.journal) c.args.region c.in-Some.view (sym c.in-Some.is ∙ c.in_ok-view.ensures.seen e)) c.region_line-in-Some.ensures.text;
}

pub returns-in-None : goal.returns-in-None
returns-in-None g c = record {
  text = λ e. region_none c.args.cluster (state_of c.args.pair.now.journal) c.args.region c.args.out.now.items (sym c.in-None.is ∙ c.in_ok-view.ensures.seen e);
}
