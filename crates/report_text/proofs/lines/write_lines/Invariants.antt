use Rattle.std.proofs.Common.{◌≡◌, ◌+◌, ◌++◌, drop}
use Rattle.report_text.specs.Lines.{lines_from}
use Rattle.report_text.proofs.lines.write_lines.Given as goal

abbrev pub invariant-loop-made : goal.invariant-loop-made
invariant-loop-made l = (l.number ≡ l.first + l.made-index) × (l.out.items ++ lines_from l.number (drop l.made-index l.records) ≡ l.initial.out.items ++ lines_from l.first l.records)
