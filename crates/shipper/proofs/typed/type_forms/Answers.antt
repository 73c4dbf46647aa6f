use Rattle.std.proofs.Common.{sym, subst}
use Rattle.std.proofs.lemmas.List.{take_all}
use Rattle.std.proofs.lemmas.List.Elements.{All-more, All-same}
use Rattle.wal_entry.specs.Framed.{IsTyped}
use Rattle.shipper.proofs.typed.type_forms.Goals as goal

pub loop-form-preserved : goal.loop-form-preserved
loop-form-preserved c =
    All-more IsTyped c.args.forms.now c.loop-form.form-index c.form-item.result c.loop-form-test.true c.loop-form.invariant (subst IsTyped c.form-item.is c.type_form.ensures)

pub returns : goal.returns
returns c = All-same IsTyped c.args.forms.now _ (sym (take_all c.loop-form.form-index c.args.forms.now c.loop-form-test.false)) c.loop-form.invariant
