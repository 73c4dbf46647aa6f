use Rattle.std.proofs.Common.{◌+◌, arith}
use Rattle.std.proofs.lemmas.Grind.{common_steps}
use Rattle.std.proofs.lemmas.List.Sums.{sum_by-take-le}
use Rattle.wal_entry.specs.Length.{frame_length_of}
use Rattle.wire_batch.proofs.encode.frames_length.Goals as goal

pub overflow_add-total : goal.overflow_add-total
overflow_add-total c = grind (arith, common_steps, sum_by-take-le frame_length_of c.args.forms.now (c.loop-form.form-index + 1))
