use Rattle.std.proofs.Common.{◌≡◌, ◌+◌, ◌-◌, ◌++◌}
use Rattle.script_text.specs.Generating.{turns_text}
use Rattle.script_text.proofs.generator.write_script.Given as goal

abbrev pub invariant-loop-before : goal.invariant-loop-before
invariant-loop-before l =
    l.out.items ++ turns_text (l.size - l.before) (l.before + 1) l.course ≡ l.initial.out.items ++ turns_text l.size 1 (record { x = l.fn.start; host = 1 })
