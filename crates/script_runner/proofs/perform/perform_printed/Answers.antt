use Rattle.std.proofs.Common.{length, ap}
use Rattle.std.proofs.lemmas.Result.{on_ok_weaker}
use Rattle.script_runner.proofs.Printing.{printed}
use Rattle.script_runner.proofs.Serving.{served-drains}
use Rattle.script_runner.proofs.perform.perform_printed.Goals as goal

pub returns-clause-printed : goal.returns-clause-printed
returns-clause-printed g c =
    let made = c.in_ok-perform.ensures.performs in
    on_ok_weaker c.print_from.result
    (λ text. (
      made.0,
      made.1,
      made.2,
      printed c.args.command.now c.args.pair.now.journal made.0 c.perform.new.pair.journal (length c.journal-made.result.now) c.args.text.now.items c.print_from.new.text.items
          (served-drains c.args.command.now c.requires.served) made.1 (ap length c.journal-made.ensures.value) text,
    ))
    c.print_from.ensures
