use Rattle.std.proofs.Common.{append_assoc}
use Rattle.std.proofs.lemmas.Result.{IfOk-equal}
use Rattle.report_text.proofs.cell.write_view.Goals as goal

pub returns : goal.returns
returns c =
    IfOk-equal _ _ _ _ c.writeln.ensures.bytes (rw (c.in_ok-write_value.ensures, c.as_slice.ensures, c.in_ok-write.ensures.bytes) (simp append_assoc))
