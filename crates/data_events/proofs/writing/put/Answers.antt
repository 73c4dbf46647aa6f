use Rattle.rep_model.specs.LogEvents.{put_plan}
use Rattle.cluster_core.proofs.Answering.{plan_refused}
use Rattle.data_events.proofs.Typing.{worded}
use Rattle.data_events.proofs.writing.put.Goals as goal

pub returns-in-Err-clause-does : goal.returns-in-Err-clause-does
returns-in-Err-clause-does g c = λ way m reached pair stands number.
    plan_refused c.args.core.now.own (put_plan c.args.core.now.own c.args.table.now c.args.row.now c.args.cells m) m _ c.args.core.now c.in-Err.why (c.in-Err.ensures.state _ m stands) stands

pub made_edit-requires-clause-values : goal.made_edit-requires-clause-values
made_edit-requires-clause-values g c = (worded c.args.cells c.requires.worded).values
