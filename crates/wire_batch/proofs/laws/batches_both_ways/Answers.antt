use Rattle.wire_batch.proofs.Whole.{batch_takes, batch_again, after_batch, length-batch, batches_apart}
use Rattle.wire_batch.proofs.laws.batches_both_ways.Goals as goal

pub returns-clause-length : goal.returns-clause-length
returns-clause-length c = length-batch

pub returns-clause-whole : goal.returns-clause-whole
returns-clause-whole c = λ batch has. (after_batch batch, batch_again batch has)

pub returns-clause-spelled : goal.returns-clause-spelled
returns-clause-spelled c = batch_takes

pub returns-clause-apart : goal.returns-clause-apart
returns-clause-apart c = batches_apart
