use Rattle.std.proofs.Common.{◌≡◌, ◌+◌, ◌≤◌, length}
use Rattle.script_text.specs.Grammar.{read_lines, script}
use Rattle.script_text.specs.Lines.{lines_of}
use Rattle.script_text.proofs.Scripts.{joined}
use Rattle.script_text.proofs.parser.parse.Given as goal

abbrev pub invariant-loop-rest : goal.invariant-loop-rest
invariant-loop-rest l =
    (joined l.commands (read_lines l.input l.number l.before (lines_of l.rest)) ≡ script l.input (lines_of l.text)) × (l.number + length l.rest ≤ length l.text + 1)

abbrev pub decreases-loop-rest : goal.decreases-loop-rest
decreases-loop-rest l = length l.rest
