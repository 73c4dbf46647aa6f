use Rattle.std.proofs.Common.{sym, subst, Result}
use Rattle.rep_types.specs.declared.event.Event.TheVariants as event
use Rattle.rep_types.specs.declared.reply.Reply.{Reply}
use Rattle.cluster_core.specs.declared.parts.CoreError.{CoreError}
use Rattle.cluster_core.specs.Does.{Answers}
use Rattle.data_events.proofs.Shown.{show_refused, show_answers}
use Rattle.data_events.proofs.reading.show.Goals as goal

pub returns-in-None-clause-does : goal.returns-in-None-clause-does
returns-in-None-clause-does c = λ way k m reached stands. show_refused way c.args.core.now.own c.args.table.now m k c.args.core.now stands (sym c.in-None.ensures)

pub returns-in-Some-clause-does : goal.returns-in-Some-clause-does
returns-in-Some-clause-does c = λ way k m reached stands.
    subst (λ (r : Result Reply CoreError). Answers way c.args.core.now.own (event.Show c.args.core.now.own c.args.table.now) m k c.args.core.now k c.args.core.now r) (sym c.shown.ensures.value)
    (show_answers way c.args.core.now.own c.args.table.now m k c.args.core.now c.in-Some.kept.now c.scan.result stands (sym c.in-Some.ensures) c.scan.ensures)
