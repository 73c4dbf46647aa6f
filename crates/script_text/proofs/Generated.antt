-- The generator's script grows by one time after the other.
use Rattle.std.proofs.Common.{◌≡◌, ℕ, ◌+◌, ◌-◌, ◌<◌, suc, ◌++◌, refl, arith}
use Rattle.script_text.specs.declared.generator.Course.{Course}
use Rattle.script_text.specs.Generating.{turn_text, turn_course, turns_text}

pub turns-step : (size before : ℕ) (course : Course) → before < size → turns_text (size - before) (before + 1) course ≡ turn_text (before + 1) course ++ turns_text (size - (before + 1)) (before + 1 + 1) (turn_course (before + 1) course)
turns-step size before course h =
    let left : size - before ≡ suc (size - (before + 1)) = omega arith in
    rw left refl
