use Rattle.std.proofs.Common.{◌≡◌, take, sum_by}
use Rattle.wal_entry.specs.Length.{frame_length_of}
use Rattle.wire_batch.proofs.encode.frames_length.Given as goal

abbrev pub invariant-loop-form : goal.invariant-loop-form
invariant-loop-form l = l.total ≡ sum_by frame_length_of (take l.form-index l.forms)
