use Rattle.std.proofs.Common.{◌≡◌, ◌++◌, List, ℕ, OnOk, subst}
use Rattle.rep_model.specs.Runs.{state_of}
use Rattle.script_lines.proofs.Shown.{queue_some, queue_none}
use Rattle.script_lines.proofs.queues.server_line.Goals as goal

pub returns-in-Some : goal.returns-in-Some
returns-in-Some g c = record {
  text = λ e. subst (λ (t : List ℕ). OnOk c.queue_line.result (c.queue_line.new.out.items ≡ c.args.out.now.items ++ t)) (queue_some c.args.cluster (state_of c.args.pair.now.journal) c.args.peer c.args.server c.in-Some.view (c.in-Some.ensures.seen e)) c.queue_line.ensures.text;
}

pub returns-in-None : goal.returns-in-None
returns-in-None g c = record {
  text = λ e. queue_none c.args.cluster (state_of c.args.pair.now.journal) c.args.peer c.args.server c.args.out.now.items (c.in-None.ensures.seen e);
}
